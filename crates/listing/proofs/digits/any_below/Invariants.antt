-- The loop's invariant: each digit passed is 0.
use Rattle.listing.proofs.Names.{◌≡◌, ◌-◌, ◌≤◌, take, number}
use Rattle.listing.proofs.digits.any_below.Given as goal

abbrev pub invariant-loop-at : goal.invariant-loop-at
invariant-loop-at l = (l.at ≤ l.end) × (number (take l.at l.digits) ≡ 0)

abbrev pub decreases-loop-at : goal.decreases-loop-at
decreases-loop-at l = l.end - l.at
