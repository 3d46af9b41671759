use Rattle.listing.proofs.Names.{refl, arith}
use Rattle.listing.proofs.DigitLaws.{product_small, turn, turned}
use Rattle.listing.proofs.digits.scale.Goals as goal

pub loop-at-init : goal.loop-at-init
loop-at-init c = record { long = refl; small = c.requires.1; equal = refl }

pub overflow_mul-sum : goal.overflow_mul-sum
overflow_mul-sum c = omega (arith, product_small _ _ c.wide.ensures.1 c.requires.0)

pub overflow_add-sum : goal.overflow_add-sum
overflow_add-sum c = omega (arith, product_small _ _ c.wide.ensures.1 c.requires.0)

pub loop-at-smaller : goal.loop-at-smaller
loop-at-smaller c = omega arith

pub loop-at-preserved : goal.loop-at-preserved
loop-at-preserved c = turn _ _ _ _ _ _ _ c.requires.0 c.wide.ensures.0 c.wide.ensures.1 (omega arith) c.loop-at.invariant

pub returns : goal.returns
returns c = turned _ _ _ _ _ _ (omega arith) c.loop-at.invariant
