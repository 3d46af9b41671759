use Rattle.dartelm.proofs.Names.{struct_of, character_answer}
use Rattle.dartelm.proofs.Answering.{answers}
use Rattle.dartelm.proofs.dartelm_character.Goals as goal

pub returns-in-Err : goal.returns-in-Err
returns-in-Err c = rw (c.number.ensures, c.place.ensures) (answers (struct_of character_answer 0) c.read_character.ensures c.in-Err.is)

pub returns-in-Ok : goal.returns-in-Ok
returns-in-Ok c = answers (struct_of character_answer 0) c.read_character.ensures c.in-Ok.is
