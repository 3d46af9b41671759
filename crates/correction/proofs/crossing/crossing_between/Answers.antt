use Rattle.correction.proofs.Names.{sfits_of, ap, ap₂, ◌∙◌, arith, pos, ◌+ℤ◌, w64, SFits, to_z-of_z, sum}
use Rattle.correction.proofs.Distances.{less}
use Rattle.correction.proofs.Beforehand.{told-≤, told-gap}
use Rattle.correction.proofs.Sums.{told-small, climbed, Stepped, stepped}
use Rattle.correction.proofs.crossing.crossing_between.Goals as goal
use Rattle.correction.proofs.crossing.crossing_between.Goals.{After-gap-run, After-struct_told-2-1, After-struct_told-3-1}

-- The three gaps between neighbours.
gaps : (c : After-gap-run) → SFits w64 c.args.behind.point →
    Stepped c.args.p c.args.before c.args.behind c.gap-above.result c.gap-climb.result c.gap-run.result
gaps c behind =
    let lows = sfits_of c.sum-low.type_inv in
    stepped c.args.p c.args.before c.args.behind c.requires
    (rw c.sum-low.ensures at (told-gap {b = c.sum-low.result} c.ranges.p lows c.gap-above.ensures))
    (rw (c.sum-low.ensures, c.sum.ensures) at (told-gap {a = c.sum.result} {b = c.sum-low.result} (sfits_of c.sum.type_inv) lows c.gap-climb.ensures))
    (told-gap {a = c.args.behind.point} {b = c.args.before.point} behind (sfits_of c.type_inv.before.0.1) c.gap-run.ensures)

pub gap-above-requires : goal.gap-above-requires
gap-above-requires c = told-≤ {a = c.sum-low.result} (sfits_of c.sum-low.type_inv) c.ranges.p (rw c.sum-low.ensures (less (sum c.args.before) c.args.p c.requires.past))

pub gap-climb-requires : goal.gap-climb-requires
gap-climb-requires c = told-≤ {a = c.sum-low.result} {b = c.sum.result} (sfits_of c.sum-low.type_inv) (sfits_of c.sum.type_inv) (rw (c.sum-low.ensures, c.sum.ensures) (climbed c.args.p c.args.before c.args.behind c.requires))

pub gap-run-requires : goal.gap-run-requires
gap-run-requires c = told-≤ (sfits_of c.type_inv.before.0.1) (sfits_of c.type_inv.behind.0.1) (less c.args.before.point c.args.behind.point c.requires.rise)

pub overflow_mul-above : goal.overflow_mul-above
overflow_mul-above c = omega (arith, (gaps c (sfits_of (goal.at.overflow_mul-above c).After-struct_told-2-1.type_inv.behind.0.1)).fits)

pub ceiling-requires : goal.ceiling-requires
ceiling-requires c = ((gaps c (sfits_of (goal.at.ceiling-requires c).After-struct_told-2-1.type_inv.behind.0.1)).some, omega (arith, (gaps c (sfits_of (goal.at.ceiling-requires c).After-struct_told-2-1.type_inv.behind.0.1)).fits))

pub onward-requires : goal.onward-requires
onward-requires c =
    let f : SFits w64 c.args.before.point = sfits_of c.type_inv.before.0.1 in
    (told-small f c.requires.first.point, rw c.ceiling.ensures (gaps (goal.at.onward-requires c).After-gap-run (sfits_of (goal.at.onward-requires c).After-struct_told-2-1.type_inv.behind.0.1)).small)

pub returns : goal.returns
returns c =
    let f : SFits w64 c.args.before.point = sfits_of (goal.at.returns c).After-struct_told-3-1.type_inv.before.0.1 in
    to_z-of_z {w = w64} (sfits_of c.onward.type_inv)
    ∙ c.onward.ensures
    ∙ ap₂ ◌+ℤ◌ (to_z-of_z f) (ap pos c.ceiling.ensures)
    ∙ (gaps (goal.at.returns c).After-gap-run (sfits_of (goal.at.returns c).After-struct_told-2-1.type_inv.behind.0.1)).made
