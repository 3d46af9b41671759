use Rattle.build.proofs.Names.{sym, ◌∙◌, rules, arith, same_of}
use Rattle.build.proofs.PairTurns.{table-tested, test-refused, test-next, test-end}
use Rattle.build.proofs.Handed.{handed}
use Rattle.build.proofs.plan.check_points.Goals as goal

pub loop-i-init : goal.loop-i-init
loop-i-init c = (search rules, sym (table-tested _ _))

pub returns-in_err-check_pair : goal.returns-in_err-check_pair
returns-in_err-check_pair c =
    let l = c.loop-i in
    let r = sym (same_of c.in_err-check_pair.was c.check_pair.ensures) in
    rw (handed c.from_residual.result c.from_residual.ensures) (sym (sym l.invariant.1 ∙ test-refused c.args.points.now l.i _ (l.before) c.loop-i-test.true r))

pub loop-i-preserved : goal.loop-i-preserved
loop-i-preserved c =
    let l = c.loop-i in
    let codes = sym (same_of c.in_ok-check_pair.was c.check_pair.ensures) in
    (omega arith, sym (test-next c.args.points.now l.i _ (l.before) c.loop-i-test.true codes) ∙ l.invariant.1)

pub returns : goal.returns
returns c =
    let l = c.loop-i in
    sym (sym l.invariant.1 ∙ test-end c.args.points.now l.i _ (l.before) c.loop-i-test.false)
