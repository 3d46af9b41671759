use Rattle.distance.proofs.Names.{◌+◌, ◌/◌, ◌≤◌, ◌<◌, arith, length}
use Rattle.distance.proofs.Slopes.{step-at, slopes-next, slopes-end}
use Rattle.distance.proofs.bound.steepest.Goals as goal

pub slope_at-requires : goal.slope_at-requires
slope_at-requires c =
    let points = c.args.points.now in
    let h : c.loop-i.i + 1 < length points / 2 = omega (arith, c.loop-i-test.true, c.saturating_sub-i-end.ensures) in
    (h, (step-at points c.loop-i.i h c.loop-i.invariant.1).0)

pub loop-i-preserved : goal.loop-i-preserved
loop-i-preserved c =
    let points = c.args.points.now in
    let h : c.loop-i.i + 1 < length points / 2 = omega (arith, c.loop-i-test.true, c.saturating_sub-i-end.ensures) in
    let inv = c.loop-i.invariant in (
      omega (arith, c.slope_at.ensures.1, inv.0),
      (step-at points c.loop-i.i h inv.1).1,
      omega (arith, c.slope_at.ensures.0, slopes-next points c.loop-i.i h, inv.2),
    )

pub returns : goal.returns
returns c =
    let points = c.args.points.now in
    let last : length points / 2 ≤ c.loop-i.i + 1 = omega (arith, c.loop-i-test.false, c.saturating_sub-i-end.ensures) in
    (omega (arith, slopes-end points c.loop-i.i last, c.loop-i.invariant.2), c.loop-i.invariant.0)
