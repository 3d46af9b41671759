use Rattle.promises.proofs.LentLaws.{level-other}
use Rattle.promises.proofs.lent.level_of.Goals as goal

pub returns-in_default : goal.returns-in_default
returns-in_default c = level-other _ c.in_default.in_default-own.rest.0.1 c.in_default.in_default-own.rest.1
