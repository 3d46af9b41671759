use Rattle.build.proofs.Names.{arith, front-most}
use Rattle.build.proofs.Coding.{quick-asked, quick-here}
use Rattle.build.proofs.plan.code_front.Goals as goal

pub loop-i-init : goal.loop-i-init
loop-i-init c = rw c.basic_fields-first.ensures (omega arith, (front-most c.args.template).0, c.requires)

pub quick_code-quick-requires : goal.quick_code-quick-requires
quick_code-quick-requires c =
    let t = c.args.template in
    let l = c.loop-i in
    quick-asked (record { template = t; precision = l.precision }) (c.front_row.ensures _) l.invariant.2.long (omega (arith, c.loop-i-test.true, (front-most t).1))

pub code_field-requires : goal.code_field-requires
code_field-requires c =
    let t = c.args.template in
    let l = c.loop-i in
    record { fields_coded = (l.invariant.2, omega (arith, c.loop-i-test.true, (front-most t).1)); quick = quick-here (record { template = t; precision = l.precision }) (c.front_row.ensures _) c.quick_code-quick.ensures }

pub loop-i-preserved : goal.loop-i-preserved
loop-i-preserved c = (omega (arith, c.loop-i.invariant.0), omega (arith, c.loop-i-test.true), c.code_field.ensures.done _ c.in_ok-precision.was)
