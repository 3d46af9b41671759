use Rattle.dartelm.proofs.Names.{rules, to_z-of_z, w64, struct_of, reading_answer, no_reading}
use Rattle.dartelm.proofs.Answering.{answers}
use Rattle.dartelm.proofs.dartelm_reading.Goals as goal

pub returns-in-Err : goal.returns-in-Err
returns-in-Err c =
    let e = rw (to_z-of_z c.ranges.input, c.dash_of-taker.ensures) at c.take_reading.ensures in
    rw (c.number.ensures, c.place.ensures) (answers (struct_of reading_answer no_reading) e c.in-Err.is)

pub returns-in-Ok : goal.returns-in-Ok
returns-in-Ok c =
    let e = rw (to_z-of_z c.ranges.input, c.dash_of-taker.ensures) at c.take_reading.ensures in
    rw (to_z-of_z {w = w64} {z = c.in-Ok.shown.fraction} (search rules)) (answers (struct_of reading_answer no_reading) e c.in-Ok.is)
