-- The loop's invariant: the pairs so far are the sheet's.
use Rattle.conformity.proofs.Names.{◌≡◌, ℕ, length, Contents, points, Opens}
use Rattle.conformity.proofs.Filling.{Filled}
use Rattle.conformity.proofs.stored.stored_points.Given as goal

abbrev pub invariant-loop-i : goal.invariant-loop-i
invariant-loop-i l = (length l.room ≡ 254) × ((kind : ℕ) (c : Contents) → Opens kind l.image l.sheet c → Filled l.room (points c) l.i)
