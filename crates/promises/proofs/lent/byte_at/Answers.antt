use Rattle.promises.proofs.Names.{arith}
use Rattle.promises.proofs.LentLaws.{behind}
use Rattle.promises.proofs.lent.byte_at.Goals as goal

pub returns : goal.returns
returns c = let a = c.args in behind a.bytes.now a.i 0 (omega arith)
