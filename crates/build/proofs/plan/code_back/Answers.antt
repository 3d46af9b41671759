use Rattle.build.proofs.Names.{arith, front-most}
use Rattle.build.proofs.Coding.{quick-asked, quick-here, coded-at}
use Rattle.build.proofs.plan.code_back.Goals as goal

pub overflow_sub-first : goal.overflow_sub-first
overflow_sub-first c = omega (arith, c.last_field.ensures, (front-most c.args.template).2)

pub quick_code-quick-requires : goal.quick_code-quick-requires
quick_code-quick-requires c =
    let t = c.args.template in
    let l = c.loop-j in
    rw c.last_field.ensures
    (quick-asked (record { template = t; precision = l.precision }) (c.back_row.ensures _) l.invariant.1.long (omega (arith, c.loop-j-test.true, (front-most t).2)))

pub code_field-requires : goal.code_field-requires
code_field-requires c =
    let t = c.args.template in
    let l = c.loop-j in
    rw c.last_field.ensures
    (record { fields_coded = (l.invariant.1, omega (arith, c.loop-j-test.true, (front-most t).2)); quick = quick-here (record { template = t; precision = l.precision }) (c.back_row.ensures _) (rw c.last_field.ensures at c.quick_code-quick.ensures) })

pub loop-j-preserved : goal.loop-j-preserved
loop-j-preserved c = (
  omega (arith, c.loop-j-test.true),
  coded-at (c.code_field.ensures.done _ c.in_ok-precision.was) (omega (arith, c.last_field.ensures)),
)
