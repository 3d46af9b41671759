use Rattle.templates.proofs.Names.{arith}
use Rattle.templates.proofs.CalibrationLaws.{sum-falls, sum-climbs}
use Rattle.templates.proofs.calibration.climbs.Goals as goal

pub returns-then-sum_above : goal.returns-then-sum_above
returns-then-sum_above c =
    let a = c.args in
    rw (c.in-Physical.is, sum-falls a.before a.next (omega (arith, c.sum_above.ensures, c.sum_above-in-Physical.ensures, c.if-sum_above.true)))

pub returns-else-sum_above : goal.returns-else-sum_above
returns-else-sum_above c =
    let a = c.args in
    rw (c.in-Physical.is, sum-climbs a.before a.next (omega (arith, c.sum_above.ensures, c.sum_above-in-Physical.ensures, c.if-sum_above.false)))
