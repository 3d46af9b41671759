use Rattle.dartelm.proofs.Names.{rules, to_z-of_z, w64, struct_of, segment_answer, no_segment}
use Rattle.dartelm.proofs.Answering.{answers}
use Rattle.dartelm.proofs.dartelm_segment.Goals as goal

pub returns-in-Err : goal.returns-in-Err
returns-in-Err c = rw (c.number.ensures, c.place.ensures) (answers (struct_of segment_answer no_segment) c.read_segment.ensures c.in-Err.is)

pub returns-in-Ok : goal.returns-in-Ok
returns-in-Ok c =
    rw (to_z-of_z {w = w64} {z = c.in-Ok.segment.start} (search rules))
    (answers (struct_of segment_answer no_segment) c.read_segment.ensures c.in-Ok.is)
