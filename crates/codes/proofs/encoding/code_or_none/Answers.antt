use Rattle.codes.proofs.Names.{arith}
use Rattle.codes.proofs.encoding.code_or_none.Goals as goal

pub returns-in-Err : goal.returns-in-Err
returns-in-Err c = λ h. absurd (omega (arith, h))
