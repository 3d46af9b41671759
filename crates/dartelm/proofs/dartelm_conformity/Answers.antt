use Rattle.dartelm.proofs.Names.{ap, ◌∙◌, Ok, struct_of, conformity_answer, no_conformity}
use Rattle.dartelm.proofs.Answering.{answers}
use Rattle.dartelm.proofs.dartelm_conformity.Goals as goal

pub returns-in-Err : goal.returns-in-Err
returns-in-Err c = rw (c.number.ensures, c.place.ensures) (answers (struct_of conformity_answer no_conformity) c.conformity.ensures c.in-Err.is)

pub returns-in-Ok-Some : goal.returns-in-Ok-Some
returns-in-Ok-Some c = answers (struct_of conformity_answer no_conformity) c.conformity.ensures (c.in-Ok-Some.is ∙ ap Ok c.in-Ok-Some.field-0-is)

pub returns-in-Ok-None : goal.returns-in-Ok-None
returns-in-Ok-None c = answers (struct_of conformity_answer no_conformity) c.conformity.ensures (c.in-Ok-None.is ∙ ap Ok c.in-Ok-None.field-0-is)
