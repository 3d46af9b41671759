use Rattle.codes.proofs.Names.{refl, arith, listed}
use Rattle.codes.proofs.tables.value_in.Goals as goal

pub overflow_cast-result : goal.overflow_cast-result
unfolding listed
overflow_cast-result c = omega (arith, c.type_inv.values c.args.code)

pub returns : goal.returns
unfolding listed
returns c = (refl, omega (arith, c.type_inv.values c.args.code))
