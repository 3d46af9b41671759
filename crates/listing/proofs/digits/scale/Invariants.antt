-- The loop's invariant: the digits done, and the rest with the carry, give the whole product.
use Rattle.listing.proofs.Names.{◌-◌, length}
use Rattle.listing.proofs.DigitLaws.{Turned}
use Rattle.listing.proofs.digits.scale.Given as goal

abbrev pub invariant-loop-at : goal.invariant-loop-at
invariant-loop-at l = Turned l.initial.digits l.digits l.by l.more l.carry l.at

abbrev pub decreases-loop-at : goal.decreases-loop-at
decreases-loop-at l = length l.initial.digits - l.at
