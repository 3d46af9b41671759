use Rattle.integers.proofs.Names.{w64, sfits_of, ◌∙◌, ◌-◌, mod-lt, div-le_self, arith, to_z-of_z}
use Rattle.integers.proofs.Quotient.{one_more, from-above, from-above-fits, below-down, below_stays}
use Rattle.integers.proofs.rounding.nearest.Goals as goal

pub difference-requires : goal.difference-requires
difference-requires c = omega (arith, from-above-fits c.args.up c.args.down c.args.den _ c.if-down-up.true c.nearest_whole.ensures c.requires.0)

pub returns-then-down-up : goal.returns-then-down-up
returns-then-down-up c = to_z-of_z {w = w64} (sfits_of c.difference.type_inv) ∙ c.difference.ensures ∙ from-above c.args.up c.args.down c.args.den _ c.if-down-up.true c.nearest_whole.ensures

pub overflow_sub-den : goal.overflow_sub-den
overflow_sub-den c = omega (arith, mod-lt (c.args.down - c.args.up) c.requires.0)

pub overflow_add-q : goal.overflow_add-q
overflow_add-q c = omega (arith, one_more (c.args.down - c.args.up) c.args.den c.requires.0 (omega arith))

pub difference-requires-then-den-r : goal.difference-requires-then-den-r
difference-requires-then-den-r c = omega (arith, one_more (c.args.down - c.args.up) c.args.den c.requires.0 (omega arith))

pub returns-then-den-r : goal.returns-then-den-r
returns-then-den-r c = to_z-of_z {w = w64} (sfits_of c.difference-then-den-r.type_inv) ∙ c.difference-then-den-r.ensures ∙ below-down c.args.up c.args.down c.args.den c.requires.0 c.if-down-up.false (omega arith)

pub difference-requires-2 : goal.difference-requires-2
difference-requires-2 c = omega (arith, div-le_self (c.args.down - c.args.up) c.args.den)

pub returns : goal.returns
returns c = to_z-of_z {w = w64} (sfits_of c.difference-2.type_inv) ∙ c.difference-2.ensures ∙ below_stays c.args.up c.args.down c.args.den c.requires.0 c.if-down-up.false (omega arith)
