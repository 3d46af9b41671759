use Rattle.correction.proofs.Names.{sfits_of, arith}
use Rattle.correction.proofs.Sums.{plus-fits, plus-made}
use Rattle.correction.proofs.crossing.sum.Goals as goal

pub overflow_add-result : goal.overflow_add-result
overflow_add-result c =
    let g = c.struct_told-1.given in
    plus-fits c.args.pair.point c.args.pair.deviation (sfits_of g.0.1) (sfits_of g.1.0.1) (omega (arith, c.requires.point, c.requires.deviation))

pub returns : goal.returns
returns c =
    let g = c.struct_told-1.given in
    plus-made c.args.pair.point c.args.pair.deviation (sfits_of g.0.1) (sfits_of g.1.0.1) (omega (arith, c.requires.point, c.requires.deviation))
