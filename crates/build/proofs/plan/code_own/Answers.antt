use Rattle.build.proofs.Names.{arith, front-most}
use Rattle.build.proofs.Coding.{quick-asked}
use Rattle.build.proofs.plan.code_own.Goals as goal

pub loop-i-init : goal.loop-i-init
loop-i-init c = (omega arith, (front-most c.args.template).1, c.requires)

pub quick_code-quick-requires : goal.quick_code-quick-requires
quick_code-quick-requires c =
    let l = c.loop-i in
    quick-asked (record { template = c.args.template; precision = l.precision }) c.row_of.ensures l.invariant.2.long (omega (arith, c.loop-i-test.true, c.last_field.ensures))
