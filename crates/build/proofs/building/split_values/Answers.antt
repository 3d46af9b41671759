use Rattle.build.proofs.Names.{sym, ap, ◌∙◌, rules, w64, to_z-of_z, Whole}
use Rattle.build.proofs.Splitting.{split-none, spread-whole, spread-single, spread-missing, split-all}
use Rattle.build.proofs.building.split_values.Goals as goal
use Rattle.build.proofs.building.split_values.Goals.{in-Whole, in-Single, in-Missing}

pub loop-i-init : goal.loop-i-init
loop-i-init c = split-none c.requires

pub loop-i-preserved : goal.loop-i-preserved
loop-i-preserved c =
    let s = c.loop-i.invariant in
    let h = c.loop-i-test.true in
    elim c.match-slot.branch [
      | in-Whole w ↦ rw (w.tags-is, w.wholes-is, w.singles-is) (spread-whole s h (w.in-Whole.is ∙ ap Whole (sym (to_z-of_z {w = w64} {z = w.in-Whole.figure} (search rules)))))
      | in-Single w ↦ rw (w.tags-is, w.wholes-is, w.singles-is) (spread-single s h w.in-Single.is)
      | in-Missing w ↦ rw (w.tags-is, w.wholes-is, w.singles-is) (spread-missing s h w.in-Missing.is)
    ]

pub returns : goal.returns
returns c = split-all c.loop-i.invariant c.loop-i-test.false c.well_formed.0.1.0.1
