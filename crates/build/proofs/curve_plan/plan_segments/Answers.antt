use Rattle.build.proofs.Names.{◌≡◌, sym, arith, length, said_of, two_said}
use Rattle.build.proofs.Coding.{packed-long}
use Rattle.build.proofs.SegmentPlans.{segment-few}
use Rattle.build.proofs.CurveTurns.{few-segments, done_none, done-own, own-begun, own_open, own-closed, segment-down, segment-turn, term-down, term-turn, done_all}
use Rattle.build.proofs.Handed.{handed}
use Rattle.build.proofs.curve_plan.plan_segments.Goals as goal

pub loop-i-init : goal.loop-i-init
loop-i-init c =
    let curve = c.args.curve in
    let kept : length c.put_head.new.codes ≡ length c.args.codes.now = omega (arith, c.put_head.auto) in
    ((few-segments curve.count c.requires.0).1, c.well_formed.0.1.1.1.0.1.0.1, c.well_formed.0.1.1.1.1.0.1.0.1, rw (kept, c.put_head.ensures) (done_none curve.count curve.segments curve.terms c.requires.0 c.requires.1 c.requires.2))

-- A segment that is refused, and the next.
pub returns-in_err-start : goal.returns-in_err-start
returns-in_err-start c =
    let a = c.args in
    let curve = a.curve in
    let l = c.loop-i in
    let kept : length c.put_head.new.codes ≡ length a.codes.now = omega (arith, c.put_head.auto) in
    rw (handed c.from_residual.result c.from_residual.ensures)
    (rw kept at (segment-down curve.count curve.segments curve.terms l.invariant.1 l.invariant.0 l.invariant.3 c.loop-i-test.true _ (sym (said_of two_said c.in_err-start.was c.code_segment.ensures.said))))

pub put_pair-requires : goal.put_pair-requires
put_pair-requires c =
    let l = c.loop-i in
    let d = l.invariant.3 in
    record { at_in_bounds = omega (arith, packed-long l.codes d.fit, d.room, d.most, l.invariant.0, c.loop-i-test.true); fitting = c.code_segment.ensures.fits _ _ c.in_ok-start.was }

pub overflow_add-end : goal.overflow_add-end
overflow_add-end c = omega (arith, segment-few _ _ _ _ (sym (said_of two_said c.in_ok-start.was c.code_segment.ensures.said)))

pub loop-j-init : goal.loop-j-init
loop-j-init c =
    let curve = c.args.curve in
    let l = c.loop-i in
    let e = c.in_ok-start.was in
    let two = c.code_segment.ensures in
    let fits = two.fits _ _ e in
    let kept : length c.put_pair.new.codes ≡ length c.put_head.new.codes = omega (arith, c.put_pair.auto, packed-long l.codes l.invariant.3.fit) in
    (l.invariant.0, l.invariant.1, l.invariant.2, omega arith, rw (kept, c.put_pair.ensures) (own-begun curve.count curve.segments curve.terms (segment-turn curve.count curve.segments curve.terms l.invariant.1 l.invariant.0 l.invariant.3 c.loop-i-test.true _ _ _ (sym (said_of two_said e two.said)) fits.0 fits.1)))

pub loop-i-preserved : goal.loop-i-preserved
loop-i-preserved c =
    let curve = c.args.curve in
    let v = c.loop-j in
    let l = c.loop-i in
    let kept : length c.put_pair.new.codes ≡ length c.put_head.new.codes = omega (arith, c.put_pair.auto, packed-long l.codes l.invariant.3.fit) in
    (v.invariant.0, v.invariant.1, v.invariant.2, done-own curve.count curve.segments curve.terms (own-closed curve.count curve.segments curve.terms v.invariant.3 c.loop-j-test.false (rw kept at v.invariant.4)))

-- A term that is refused, and the next.
pub returns-in_err-exponent : goal.returns-in_err-exponent
returns-in_err-exponent c =
    let a = c.args in
    let curve = a.curve in
    let v = c.loop-j in
    let l = c.loop-i in
    let kept : length c.put_pair.new.codes ≡ length a.codes.now = omega (arith, c.put_pair.auto, packed-long l.codes l.invariant.3.fit, c.put_head.auto) in
    let d = own_open curve.count curve.segments curve.terms c.loop-j-test.true (rw kept at v.invariant.4) in
    rw (handed c.from_residual-in_err-exponent.result c.from_residual-in_err-exponent.ensures)
    (term-down curve.count curve.segments curve.terms v.invariant.2 v.invariant.0 d _ (sym (said_of two_said c.in_err-exponent.was c.code_term.ensures.said)))

pub put_pair-requires-in-loop-j : goal.put_pair-requires-in-loop-j
put_pair-requires-in-loop-j c =
    let v = c.loop-j.invariant in
    record { at_in_bounds = omega (arith, packed-long c.loop-j.codes v.4.fit, v.4.room, v.4.most, v.4.inside, v.0, v.3, c.loop-j-test.true); fitting = c.code_term.ensures.fits _ _ c.in_ok-exponent.was }

pub loop-j-preserved : goal.loop-j-preserved
loop-j-preserved c =
    let curve = c.args.curve in
    let v = c.loop-j in
    let e = c.in_ok-exponent.was in
    let two = c.code_term.ensures in
    let fits = two.fits _ _ e in
    let d = own_open curve.count curve.segments curve.terms c.loop-j-test.true v.invariant.4 in
    (v.invariant.0, v.invariant.1, v.invariant.2, omega arith, rw c.put_pair-in-loop-j.ensures (term-turn curve.count curve.segments curve.terms v.invariant.2 v.invariant.0 d _ _ _ (sym (said_of two_said e two.said)) fits.0 fits.1))

pub returns : goal.returns
returns c =
    let a = c.args in
    let curve = a.curve in
    let l = c.loop-i in
    let kept : length c.put_head.new.codes ≡ length a.codes.now = omega (arith, c.put_head.auto) in
    rw c.curve_listed.ensures (rw kept at (done_all curve.count curve.segments curve.terms l.invariant.0 l.invariant.3 l.invariant.1 c.loop-i-test.false))
