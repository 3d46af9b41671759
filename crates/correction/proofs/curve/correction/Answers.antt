use Rattle.correction.proofs.Names.{◌≡◌, arith, length, nested}
use Rattle.correction.proofs.NestedLaws.{nested-first, nested-turn, nested-end, zero_is}
use Rattle.correction.proofs.curve.correction.Goals as goal

pub returns-then-count-eq0 : goal.returns-then-count-eq0
unfolding nested
returns-then-count-eq0 c = rw (c.if-count-eq0.true, zero_is)

pub loop-done-init : goal.loop-done-init
loop-done-init c =
    let six : length c.args.coefficients ≡ 6 = c.well_formed.0.1.0.1 in
    (omega arith, cc (nested-first c.args.x c.args.coefficients c.args.count (omega arith) (omega arith)))

pub loop-done-preserved : goal.loop-done-preserved
loop-done-preserved c =
    let v = c.loop-done in
    let six : length c.args.coefficients ≡ 6 = c.well_formed.0.1.0.1 in
    (omega arith, cc (nested-turn c.args.x c.args.coefficients c.args.count (omega arith) v.done v.sum v.invariant.0 c.loop-done-test.true v.invariant.1))

pub returns : goal.returns
returns c =
    let v = c.loop-done in
    let six : length c.args.coefficients ≡ 6 = c.well_formed.0.1.0.1 in
    nested-end c.args.x c.args.coefficients c.args.count (omega arith) v.done v.sum c.loop-done-test.false v.invariant.1
