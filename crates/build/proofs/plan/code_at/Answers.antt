use Rattle.build.proofs.Names.{arith, last-most}
use Rattle.build.proofs.plan.code_at.Goals as goal

pub overflow_add-i : goal.overflow_add-i
overflow_add-i c = omega (arith, last-most c.args.layout.template, c.requires.lent_lengths.1)

pub value_at-requires : goal.value_at-requires
value_at-requires c = (c.requires.lent_lengths.0, omega (arith, last-most c.args.layout.template, c.requires.lent_lengths.1))
