use Rattle.promises.proofs.Names.{arith}
use Rattle.promises.proofs.LentLaws.{behind}
use Rattle.promises.proofs.lent.code_at.Goals as goal

pub returns : goal.returns
returns c = let a = c.args in behind a.codes.now a.i 0 (omega arith)
