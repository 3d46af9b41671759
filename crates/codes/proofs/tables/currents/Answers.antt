use Rattle.codes.proofs.Names.{Current}
use Rattle.codes.proofs.ScaleLaws.{tested}
use Rattle.codes.proofs.tables.currents.Goals as goal

pub returns : goal.returns
returns c = tested Current _ tt
