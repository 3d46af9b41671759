use Rattle.codes.proofs.Names.{arith, w64, to_z_pos}
use Rattle.codes.proofs.DecodeLaws.{turned, stood}
use Rattle.codes.proofs.decoding.plain.Goals as goal

pub returns-in-Err : goal.returns-in-Err
returns-in-Err c = turned _ c.in_table.ensures c.in-Err.is

pub returns : goal.returns
returns c = rw (to_z_pos w64 {n = c.args.code} (omega arith)) (stood _ c.in_table.ensures c.in_default.is)
