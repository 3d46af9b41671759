use Rattle.correction.proofs.Names.{to_z-of_z, argument}
use Rattle.correction.proofs.NestedLaws.{ten-million-is}
use Rattle.correction.proofs.curve.argument.Goals as goal

pub returns : goal.returns
unfolding argument
returns c = rw (c.nearest_i64_to_f64.ensures, to_z-of_z c.ranges.p, ten-million-is)
