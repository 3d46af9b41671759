use Rattle.distance.proofs.Names.{◌≡◌, ◌+◌, ◌*◌, rules, arith, pos, nat_abs, ◌-ℤ◌, get_or, pair_at}
use Rattle.distance.proofs.Apart.{distance-of-words}
use Rattle.distance.proofs.bound.slope_at.Goals as goal
use Rattle.distance.proofs.bound.slope_at.Goals.{After-abs_diff-rise, After-abs_diff-run}

rise-is : (c : After-abs_diff-rise) →
    let a = c.args in
    c.abs_diff-rise.result ≡ nat_abs ((pair_at a.points.now (a.i + 1)).deviation -ℤ (pair_at a.points.now a.i).deviation)
rise-is c =
    let a = c.args in
    cc (c.abs_diff-rise.ensures, distance-of-words {a = get_or a.points.now (2 * (a.i + 1) + 1) (pos 0)} {b = get_or a.points.now (2 * a.i + 1) (pos 0)} (search rules) (search rules))

run_is : (c : After-abs_diff-run) →
    let a = c.args in
    c.abs_diff-run.result ≡ nat_abs ((pair_at a.points.now (a.i + 1)).point -ℤ (pair_at a.points.now a.i).point)
run_is c =
    let a = c.args in
    cc (c.abs_diff-run.ensures, distance-of-words {a = get_or a.points.now (2 * (a.i + 1)) (pos 0)} {b = get_or a.points.now (2 * a.i) (pos 0)} (search rules) (search rules))

pub slope-requires : goal.slope-requires
slope-requires c =
    let s = c.requires.1 in
    (omega (arith, rise-is (goal.at.slope-requires c).After-abs_diff-rise, s.rise), omega (arith, run_is c, s.some), omega (arith, run_is c, s.run))

pub returns : goal.returns
returns c = (cc (c.slope.ensures.0, rise-is (goal.at.returns c).After-abs_diff-rise, run_is (goal.at.returns c).After-abs_diff-run), c.slope.ensures.1)
