-- The loop's invariant: n is the number of the digits from `at` on.
use Rattle.listing.proofs.Names.{◌≡◌, ◌<◌, ◌≤◌, length, drop, number}
use Rattle.listing.proofs.rounding.highest.Given as goal

abbrev pub invariant-loop-at : goal.invariant-loop-at
invariant-loop-at l = (l.at ≤ length l.digits) × (l.n ≡ number (drop l.at l.digits)) × (l.n < 10_000_000)

abbrev pub decreases-loop-at : goal.decreases-loop-at
decreases-loop-at l = l.at
