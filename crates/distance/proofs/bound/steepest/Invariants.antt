use Rattle.distance.proofs.Names.{◌≡◌, max, ◌^◌, ◌≤◌, pairs_lent, pairs_from, Neighbours, steepest, Step}
use Rattle.distance.proofs.bound.steepest.Given as goal

-- The loop's invariant: the greatest so far and the greatest of those left.
abbrev pub invariant-loop-i : goal.invariant-loop-i
invariant-loop-i l = (l.k ≤ 2 ^ 43) × Neighbours Step (pairs_from l.points l.i) × (max l.k (steepest (pairs_from l.points l.i)) ≡ steepest (pairs_lent l.points))
