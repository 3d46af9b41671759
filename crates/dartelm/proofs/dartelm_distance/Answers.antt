use Rattle.dartelm.proofs.Names.{struct_of, distance_answer, no_distance}
use Rattle.dartelm.proofs.Answering.{answers}
use Rattle.dartelm.proofs.dartelm_distance.Goals as goal

pub returns-in-Err : goal.returns-in-Err
returns-in-Err c = rw (c.number.ensures, c.place.ensures) (answers (struct_of distance_answer no_distance) c.distance.ensures c.in-Err.is)

pub returns-in-Ok : goal.returns-in-Ok
returns-in-Ok c = answers (struct_of distance_answer no_distance) c.distance.ensures c.in-Ok.is
