use Rattle.listing.proofs.Names.{◌≡◌, refl, sym, ap, ◌∙◌, ◌-◌, arith, drop-length, number}
use Rattle.listing.proofs.RoundLaws.{digit-below}
use Rattle.listing.proofs.rounding.highest.Goals as goal

pub loop-at-init : goal.loop-at-init
loop-at-init c = (omega arith, sym (ap number (drop-length c.args.digits.now)), omega arith)

pub returns-then-n-ge1000000 : goal.returns-then-n-ge1000000
returns-then-n-ge1000000 c = record { within = omega arith; is = c.loop-at.invariant.1; seven = omega arith; least = λ _. omega arith }

pub loop-at-preserved : goal.loop-at-preserved
loop-at-preserved c = (omega arith, rw (c.loop-at.invariant.1, c.wide.ensures.0) (digit-below _ c.loop-at.at (omega arith) (omega arith)), omega (arith, c.requires (c.loop-at.at - 1)))

pub returns : goal.returns
returns c = let e : c.loop-at.at ≡ 0 = omega arith in record { within = omega arith; is = c.loop-at.invariant.1 ∙ rw e refl; seven = omega arith; least = λ h. absurd (omega arith) }
