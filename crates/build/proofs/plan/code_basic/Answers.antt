use Rattle.build.proofs.Names.{arith, basic-most}
use Rattle.build.proofs.Coding.{quick-asked, quick-here}
use Rattle.build.proofs.plan.code_basic.Goals as goal

pub quick_code-quick-requires : goal.quick_code-quick-requires
quick_code-quick-requires c =
    let t = c.args.template in
    let l = c.loop-i in
    quick-asked (record { template = t; precision = l.precision }) (c.basic_row.ensures _) l.invariant.1.long (omega (arith, c.loop-i-test.true, c.basic_fields-end.ensures, basic-most t))

pub code_field-requires : goal.code_field-requires
code_field-requires c =
    let t = c.args.template in
    let l = c.loop-i in
    record { fields_coded = (l.invariant.1, omega (arith, c.loop-i-test.true, c.basic_fields-end.ensures, basic-most t)); quick = quick-here (record { template = t; precision = l.precision }) (c.basic_row.ensures _) c.quick_code-quick.ensures }

pub loop-i-preserved : goal.loop-i-preserved
loop-i-preserved c = (omega (arith, c.loop-i-test.true, c.basic_fields-end.ensures), c.code_field.ensures.done _ c.in_ok-precision.was)
