use Rattle.conformity.proofs.Names.{◌≡◌, ◌/◌, subst, length, pairs_lent, Before, point_of, ◌*◌, rules, arith, pos, get_or, w64, SFits, to_z-of_z}
use Rattle.conformity.proofs.Exacts.{passed-stops, passed-all, passed-one}
use Rattle.conformity.proofs.differences.passed.Goals as goal

pub loop-n-init : goal.loop-n-init
loop-n-init c = rw (to_z-of_z c.ranges.p) (record { most = c.requires.0; below = c.requires.1 })

pub returns-then-p-points : goal.returns-then-p-points
returns-then-p-points c =
    let f : SFits w64 (get_or c.args.points.now (2 * c.loop-n.n) (pos 0)) = search rules in
    passed-stops c.args.points.now c.args.p c.loop-n.n (rw (to_z-of_z c.ranges.p) at c.loop-n.invariant) (omega (arith, c.loop-n-test.true)) (rw (to_z-of_z c.ranges.p, to_z-of_z f) at c.if-p-points.true)

pub loop-n-preserved : goal.loop-n-preserved
loop-n-preserved c =
    let f : SFits w64 (get_or c.args.points.now (2 * c.loop-n.n) (pos 0)) = search rules in
    rw (to_z-of_z c.ranges.p)
    (passed-one c.args.points.now c.args.p c.loop-n.n (rw (to_z-of_z c.ranges.p) at c.loop-n.invariant) (omega (arith, c.loop-n-test.true)) (rw (to_z-of_z c.ranges.p, to_z-of_z f) at c.if-p-points.false))

pub returns : goal.returns
returns c =
    let points = c.args.points.now in
    let n : c.loop-n.n ≡ length points / 2 = omega (arith, c.loop-n-test.false, c.loop-n.auto.n-end, c.requires.0) in
    subst (Before point_of (pairs_lent points) c.args.p) n (passed-all points c.args.p c.loop-n.n (rw (to_z-of_z c.ranges.p) at c.loop-n.invariant) (omega (arith, c.loop-n-test.false)))
