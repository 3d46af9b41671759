use Rattle.listing.proofs.Names.{◌∙◌, sym, true, false, arith}
use Rattle.listing.proofs.RoundLaws.{rounds}
use Rattle.listing.proofs.rounding.round.Goals as goal

pub overflow_add-result : goal.overflow_add-result
overflow_add-result c = omega (arith, c.highest-x.ensures.seven)

pub returns-then-is_upward : goal.returns-then-is_upward
returns-then-is_upward c = (rounds _ _ _ c.requires c.highest-x.ensures true (sym c.if-is_upward.true ∙ c.is_upward.ensures), omega arith, omega arith)

pub returns : goal.returns
returns c = (rounds _ _ _ c.requires c.highest-x.ensures false (sym c.if-is_upward.false ∙ c.is_upward.ensures), omega arith, omega arith)
