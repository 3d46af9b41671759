use Rattle.figures.proofs.Names.{to_z-of_z, float_fraction}
use Rattle.codes.proofs.FloatLaws.{in-float, billion-is}
use Rattle.figures.proofs.figure.float_fraction.Goals as goal

pub int_to_float-result : goal.int_to_float-result
unfolding float_fraction
int_to_float-result c = rw (to_z-of_z c.ranges.q) (in-float c.args.q c.requires)

pub returns : goal.returns
unfolding float_fraction
returns c = rw (to_z-of_z c.ranges.q, billion-is)
