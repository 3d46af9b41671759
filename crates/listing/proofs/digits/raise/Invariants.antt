-- The loop's invariant: the number, times `by` for each turn left, is the result.
use Rattle.listing.proofs.Names.{◌*◌, ◌^◌, number}
use Rattle.listing.proofs.DigitLaws.{Raised}
use Rattle.listing.proofs.digits.raise.Given as goal

abbrev pub invariant-loop-left : goal.invariant-loop-left
invariant-loop-left l = Raised l.initial.digits l.digits l.by (number l.initial.digits * l.by ^ l.times) l.left

abbrev pub decreases-loop-left : goal.decreases-loop-left
decreases-loop-left l = l.left
