use Rattle.correction.proofs.NestedLaws.{zero_is}
use Rattle.correction.proofs.curve.Powers.none.Goals as goal

pub returns : goal.returns
returns c = rw zero_is
