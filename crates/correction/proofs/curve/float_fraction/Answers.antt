use Rattle.correction.proofs.Names.{to_z-of_z, fraction_by}
use Rattle.correction.proofs.NestedLaws.{hundred-is}
use Rattle.correction.proofs.curve.float_fraction.Goals as goal

pub returns : goal.returns
unfolding fraction_by
returns c = cc (to_z-of_z c.ranges.p, hundred-is)
