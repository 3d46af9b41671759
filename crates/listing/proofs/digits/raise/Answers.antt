use Rattle.listing.proofs.Names.{refl, arith}
use Rattle.listing.proofs.DigitLaws.{raise-turn, raised}
use Rattle.listing.proofs.digits.raise.Goals as goal

pub loop-left-init : goal.loop-left-init
loop-left-init c = record { long = refl; digits = c.requires.0; equal = refl }

pub loop-left-preserved : goal.loop-left-preserved
loop-left-preserved c = raise-turn _ _ _ _ _ _ c.loop-left.invariant (omega arith) c.scale.ensures

pub returns : goal.returns
returns c = raised _ _ _ _ _ c.loop-left.invariant (omega arith)
