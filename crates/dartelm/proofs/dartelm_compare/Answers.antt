use Rattle.dartelm.proofs.Names.{ap, ◌∙◌, Ok, struct_of, compared_answer, no_comparison}
use Rattle.dartelm.proofs.Answering.{answers}
use Rattle.dartelm.proofs.dartelm_compare.Goals as goal

pub returns-in-Err : goal.returns-in-Err
returns-in-Err c = rw (c.number.ensures, c.place.ensures) (answers (struct_of compared_answer no_comparison) c.compare.ensures c.in-Err.is)

pub returns-in-Ok-Tick : goal.returns-in-Ok-Tick
returns-in-Ok-Tick c = answers (struct_of compared_answer no_comparison) c.compare.ensures (c.in-Ok-Tick.is ∙ ap Ok c.in-Ok-Tick.field-0-is)

pub returns-in-Ok-Agree : goal.returns-in-Ok-Agree
returns-in-Ok-Agree c = answers (struct_of compared_answer no_comparison) c.compare.ensures (c.in-Ok-Agree.is ∙ ap Ok c.in-Ok-Agree.field-0-is)
