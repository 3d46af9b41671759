use Rattle.dartelm.proofs.Names.{struct_of, code_answer}
use Rattle.dartelm.proofs.Answering.{answers}
use Rattle.dartelm.proofs.dartelm_code.Goals as goal

pub returns-in-Err : goal.returns-in-Err
returns-in-Err c = rw (c.number.ensures, c.place.ensures) (answers (struct_of code_answer 0) c.code_of.ensures c.in-Err.is)

pub returns-in-Ok : goal.returns-in-Ok
returns-in-Ok c = answers (struct_of code_answer 0) c.code_of.ensures c.in-Ok.is
