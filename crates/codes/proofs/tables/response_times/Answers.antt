use Rattle.codes.proofs.Names.{ResponseTime}
use Rattle.codes.proofs.ScaleLaws.{tested}
use Rattle.codes.proofs.tables.response_times.Goals as goal

pub returns : goal.returns
returns c = tested ResponseTime _ tt
