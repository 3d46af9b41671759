use Rattle.build.proofs.Names.{add-one, arith, last-most}
use Rattle.build.proofs.TextTurns.{open-ending, shut-ending, no-ending}
use Rattle.build.proofs.plan.check_ending.Goals as goal

pub overflow_add-field : goal.overflow_add-field
overflow_add-field c = omega (arith, c.last_field-field.ensures, last-most c.args.template)

pub returns-then-end_bit : goal.returns-then-end_bit
returns-then-end_bit c = rw c.if-end_bit.true (open-ending _ _ (rw (c.last_field-field.ensures, add-one _) at c.check_characters.ensures))

pub returns-then-text-gt0 : goal.returns-then-text-gt0
returns-then-text-gt0 c = rw (c.if-end_bit.false, c.last_field-field.ensures, add-one _) (shut-ending _ _ c.if-text-gt0.true)

pub returns : goal.returns
returns c = rw c.if-end_bit.false (no-ending _ _ c.if-text-gt0.false)
