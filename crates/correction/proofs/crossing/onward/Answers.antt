use Rattle.correction.proofs.Names.{arith, pos}
use Rattle.correction.proofs.Sums.{plus-fits, plus-made}
use Rattle.correction.proofs.crossing.onward.Goals as goal

pub overflow_add-result : goal.overflow_add-result
overflow_add-result c = plus-fits c.args.point (pos c.args.steps) c.ranges.point (record { sfits = omega (arith, c.requires.1) }) (omega (arith, c.requires))

pub returns : goal.returns
returns c = plus-made c.args.point (pos c.args.steps) c.ranges.point (record { sfits = omega (arith, c.requires.1) }) (omega (arith, c.requires))
