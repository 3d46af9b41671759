use Rattle.distance.proofs.Names.{◌*◌, arith, ceiling-small}
use Rattle.distance.proofs.bound.slope.Goals as goal

pub returns : goal.returns
returns c = (c.ceiling.ensures, omega (arith, c.ceiling.ensures, ceiling-small (1000 * c.args.rise) c.args.run c.requires.1))
