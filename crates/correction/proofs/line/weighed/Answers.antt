use Rattle.correction.proofs.Names.{arith}
use Rattle.correction.proofs.Beforehand.{weighed-fits}
use Rattle.correction.proofs.line.weighed.Goals as goal

pub overflow_mul-result : goal.overflow_mul-result
overflow_mul-result c = omega (arith, weighed-fits _ _ _ _ c.requires)

pub overflow_mul-result-2 : goal.overflow_mul-result-2
overflow_mul-result-2 c = omega (arith, weighed-fits _ _ _ _ c.requires)

pub overflow_add-result : goal.overflow_add-result
overflow_add-result c = omega (arith, weighed-fits _ _ _ _ c.requires)

pub returns : goal.returns
returns c = omega (arith, weighed-fits _ _ _ _ c.requires)
