-- A template has at most 21 fields.
use Rattle.commands.proofs.Names.{rules, arith, last-most}
use Rattle.commands.proofs.builds.end_bit_word.Goals as goal

pub overflow_add-result : goal.overflow_add-result
overflow_add-result c = record { fits = omega (arith, c.last_field.ensures, last-most c.args.template) }

pub returns : goal.returns
returns c = (search rules, omega (arith, c.last_field.ensures, last-most c.args.template))
