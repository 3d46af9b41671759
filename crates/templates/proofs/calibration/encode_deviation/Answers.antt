use Rattle.templates.proofs.Names.{to_z-of_z, encode}
use Rattle.templates.proofs.calibration.encode_deviation.Goals as goal

pub returns : goal.returns
unfolding encode
returns c = rw (to_z-of_z c.ranges.figure) at c.nearest_step.ensures
