use Rattle.listing.proofs.Names.{◌≡◌, refl, sym, arith, lt-ltb}
use Rattle.listing.proofs.RoundLaws.{some_below, still-none}
use Rattle.listing.proofs.digits.any_below.Goals as goal

pub loop-at-init : goal.loop-at-init
loop-at-init c = (omega arith, refl)

pub returns-then-digits-at-ne0 : goal.returns-then-digits-at-ne0
returns-then-digits-at-ne0 c = sym (lt-ltb 0 _ (some_below c.args.digits.now c.loop-at.at c.args.end (omega arith) (omega arith)))

pub loop-at-preserved : goal.loop-at-preserved
loop-at-preserved c = (omega arith, still-none c.args.digits.now _ c.loop-at.invariant.1 c.if-digits-at-ne0.false)

pub returns : goal.returns
returns c = let e : c.loop-at.at ≡ c.args.end = omega arith in rw (← e, c.loop-at.invariant.1)
