use Rattle.integers.proofs.Names.{sym, mod-lt, arith}
use Rattle.integers.proofs.Quotient.{one_more, above-up, above-stays}
use Rattle.integers.proofs.rounding.nearest_whole.Goals as goal

pub overflow_sub-den : goal.overflow_sub-den
overflow_sub-den c = omega (arith, mod-lt c.args.num c.requires)

pub overflow_add-result : goal.overflow_add-result
overflow_add-result c = omega (arith, one_more c.args.num c.args.den c.requires (omega arith))

pub returns-then-den-r : goal.returns-then-den-r
returns-then-den-r c = sym (above-up c.args.num c.args.den c.requires (omega arith))

pub returns-else-den-r : goal.returns-else-den-r
returns-else-den-r c = sym (above-stays c.args.num c.args.den c.requires (omega arith))
