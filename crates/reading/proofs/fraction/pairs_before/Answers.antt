use Rattle.reading.proofs.Names.{sfits_of, arith, w64, SFits, to_z-of_z, points, search-right}
use Rattle.reading.proofs.Opening.{opened-figures}
use Rattle.reading.proofs.fraction.pairs_before.Goals as goal

pub figure_in-figure-requires : goal.figure_in-figure-requires
figure_in-figure-requires c =
    let k = c.requires in
    opened-figures k.opens _ (c.pair_in.ensures _ _ k.opens) (omega (arith, c.loop-low-test.true, c.loop-low.invariant.1))

pub loop-low-preserved : goal.loop-low-preserved
loop-low-preserved c =
    let i = c.loop-low.invariant in
    let f : SFits w64 c.figure_in-figure.result = sfits_of c.figure_in-figure.type_inv in (
      omega (arith, c.loop-low-test.true),
      i.1,
      λ kind x h.
          search-right _ (points x) _ _ _ (i.2 kind x h) _ c.pair_in.result (c.pair_in.ensures kind x h) (omega arith) (omega (arith, c.loop-low-test.true))
          (rw (to_z-of_z f, c.figure_in-figure.ensures) at c.if-p-figure.false),
    )
