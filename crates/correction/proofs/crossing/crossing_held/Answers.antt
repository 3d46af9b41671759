use Rattle.correction.proofs.Names.{sfits_of, arith}
use Rattle.correction.proofs.Sums.{minus-fits, minus-made}
use Rattle.correction.proofs.crossing.crossing_held.Goals as goal

pub overflow_sub-result : goal.overflow_sub-result
overflow_sub-result c = minus-fits c.args.p c.args.pair.deviation c.ranges.p (sfits_of c.struct_told-1.given.1.0.1) (omega (arith, c.requires.0.deviation, c.requires.1))

pub returns : goal.returns
returns c = minus-made c.args.p c.args.pair.deviation c.ranges.p (sfits_of c.struct_told-1.given.1.0.1) (omega (arith, c.requires.0.deviation, c.requires.1))
