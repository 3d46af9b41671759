use Rattle.dartelm.proofs.Names.{[], sym, ap, written_said, Outcome, struct_of, write_answer}
use Rattle.dartelm.proofs.wrote.Goals as goal

pub returns-in-Err : goal.returns-in-Err
returns-in-Err c = λ image. rw (c.number.ensures, c.place.ensures) (sym (ap (λ (w : Outcome (Unit {0})). struct_of write_answer [] (written_said w image)) c.in-Err.is))

pub returns-in-Ok : goal.returns-in-Ok
returns-in-Ok c = λ image. sym (ap (λ (w : Outcome (Unit {0})). struct_of write_answer [] (written_said w image)) c.in-Ok.is)
