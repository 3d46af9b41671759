-- The digit below n decides, and the digits below it if it is a 5.
use Rattle.listing.proofs.Names.{◌≡◌, refl, sym, ◌∙◌, arith}
use Rattle.listing.proofs.RoundLaws.{not_five, five-and-more, five-alone}
use Rattle.listing.proofs.rounding.is_upward.Goals as goal

pub returns-then-up-lt1 : goal.returns-then-up-lt1
returns-then-up-lt1 c = let e : c.args.up ≡ 0 = omega arith in rw e refl

pub returns-then-below-ne5 : goal.returns-then-below-ne5
returns-then-below-ne5 c = not_five _ c.args.up c.args.n c.requires.0 (omega arith) c.if-below-ne5.true

pub returns-then-any_below : goal.returns-then-any_below
returns-then-any_below c = five-and-more _ c.args.up c.args.n c.requires.0 (omega arith) c.if-below-ne5.false (sym c.any_below.ensures ∙ c.if-any_below.true)

pub returns : goal.returns
returns c = five-alone _ c.args.up c.args.n c.requires.0 (omega arith) c.if-below-ne5.false (sym c.any_below.ensures ∙ c.if-any_below.false)
