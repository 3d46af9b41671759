use Rattle.build.proofs.Names.{◌≡◌, refl, sym, ◌∙◌, ◌+◌, ◌/◌, ◌<◌, arith, length, Ok, same_of, pair_codes, pair_at}
use Rattle.build.proofs.Coding.{packed-set}
use Rattle.build.proofs.PairPlans.{pair-planned}
use Rattle.build.proofs.PairTurns.{pair_fits, some-points, points_none, points-down, points-next, points-all, points-empty}
use Rattle.build.proofs.Handed.{handed}
use Rattle.build.proofs.plan.plan_points.Goals as goal
use Rattle.build.proofs.plan.plan_points.Goals.{In_ok-pair}

-- The pair that has its codes.
coded : (c : In_ok-pair) →
    let a = c.args in
    let l = c.loop-i in
    pair_codes a.domain (l.before) l.i (pair_at a.points.now l.i) ≡ Ok c.in_ok-pair.pair
coded c = sym (same_of c.in_ok-pair.was c.check_pair.ensures)

pub returns-then-n-eq0 : goal.returns-then-n-eq0
returns-then-n-eq0 c = let a = c.args in points-empty a.domain a.points.now (length a.codes.now) c.requires.fit c.if-n-eq0.true

pub loop-i-init : goal.loop-i-init
loop-i-init c =
    let a = c.args in
    let enough = some-points (length a.points.now / 2) c.if-n-eq0.false in
    let kept : length c.put_head.new.codes ≡ length a.codes.now = omega (arith, c.put_head.auto) in
    rw (kept, c.put_head.ensures, c.domain_code.ensures) (points_none a.domain a.points.now (length a.codes.now) c.requires.fit enough c.requires.points_len_bound.0 (omega (arith, c.requires.points_len_bound.1 enough)))

pub returns-in_err-pair : goal.returns-in_err-pair
returns-in_err-pair c =
    let a = c.args in
    let l = c.loop-i in
    let kept : length c.put_head.new.codes ≡ length a.codes.now = omega (arith, c.put_head.auto) in
    rw (handed c.from_residual.result c.from_residual.ensures) (rw kept at (points-down a.domain a.points.now (length c.put_head.new.codes) l.invariant c.loop-i-test.true (sym (same_of c.in_err-pair.was c.check_pair.ensures))))

pub pair_code-requires : goal.pair_code-requires
pair_code-requires c =
    let a = c.args in
    let l = c.loop-i in
    let fits = pair_fits l.i (pair_at a.points.now l.i) _ (pair-planned a.domain (l.before) l.i (pair_at a.points.now l.i) _ (coded c)).coded in
    (fits.0.fits, fits.1.fits)

pub loop-i-preserved : goal.loop-i-preserved
loop-i-preserved c =
    let a = c.args in
    let l = c.loop-i in
    let room : 4 + l.i < length c.put_head.new.codes = omega (arith, c.put_head.auto, c.requires.points_len_bound.1 (omega (arith, c.loop-i-test.true)), c.loop-i-test.true) in
    let is = (pair-planned a.domain (l.before) l.i (pair_at a.points.now l.i) _ (coded (goal.at.loop-i-preserved c).In_ok-pair)).coded in
    rw (packed-set l.codes (4 + l.i) c.packed.result c.packed.ensures.0 (c.packed.ensures.1 ∙ c.pair_code.ensures.0))
    (points-next a.domain a.points.now (length c.put_head.new.codes) l.invariant c.loop-i-test.true room (coded (goal.at.loop-i-preserved c).In_ok-pair) is)

pub returns : goal.returns
returns c =
    let a = c.args in
    let l = c.loop-i in
    let enough = some-points (length a.points.now / 2) c.if-n-eq0.false in
    let kept : length c.put_head.new.codes ≡ length a.codes.now = omega (arith, c.put_head.auto) in
    rw kept at (points-all a.domain a.points.now (length c.put_head.new.codes) l.invariant c.loop-i-test.false c.requires.points_len_bound.0 (omega (arith, kept, c.requires.points_len_bound.1 enough)) refl c.table_bits.ensures enough)
