use Rattle.promises.proofs.Names.{refl, arith, rules, to_z-of_z}
use Rattle.promises.proofs.LentLaws.{one_more, all-of-them}
use Rattle.promises.proofs.Lending.{sheet-lendable}
use Rattle.promises.proofs.Calling.{answered}
use Rattle.promises.proofs.certificate.points_to_reading.Goals as goal

pub loop-i-init : goal.loop-i-init
loop-i-init c = (search rules, search rules, record { bytes = refl; real = tt })

pub overflow_add-i : goal.overflow_add-i
overflow_add-i c = record { fits = omega (arith, c.loop-i-test.true, c.well_formed.1.1.1.1.1.1.1.1.0.0) }

pub loop-i-preserved : goal.loop-i-preserved
loop-i-preserved c = (search rules, search rules, one_more _ _ _ _ _ _ _ _ _ _ _ _ _ _ c.loop-i.invariant.2 c.target_at-target.ensures c.content_at-content.ensures c.alter.ensures)

pub returns : goal.returns
returns c =
    let altered = all-of-them _ _ _ _ _ _ _ _ _ _ c.loop-i.i (omega arith) c.loop-i.invariant.2 in
    answered c.args.kind _ c.args.sheet _ c.args.domain _ _ c.args.reading_kind c.args.input c.args.dash _ _ _
    (sheet-lendable c.args.sheet _ c.well_formed.1.1.0)
    altered.1
    c.build-built.ensures.0 c.build-built.ensures.1
    altered.0
    (rw (to_z-of_z c.ranges.input) at c.take_reading-reading.ensures)
