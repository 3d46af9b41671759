use Rattle.dartelm.proofs.Names.{rules, to_z-of_z, w64, struct_of, pair_answer, no_pair}
use Rattle.dartelm.proofs.Answering.{answers}
use Rattle.dartelm.proofs.dartelm_pair.Goals as goal

pub returns-in-Err : goal.returns-in-Err
returns-in-Err c = rw (c.number.ensures, c.place.ensures) (answers (struct_of pair_answer no_pair) c.read_pair.ensures c.in-Err.is)

pub returns-in-Ok : goal.returns-in-Ok
returns-in-Ok c =
    let p = c.in-Ok.pair in
    rw (to_z-of_z {w = w64} {z = p.point} (search rules), to_z-of_z {w = w64} {z = p.deviation} (search rules)) (answers (struct_of pair_answer no_pair) c.read_pair.ensures c.in-Ok.is)
