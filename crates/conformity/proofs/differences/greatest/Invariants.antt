-- The loop's invariant: the greatest so far and the greatest of the points left.
use Rattle.conformity.proofs.Names.{◌≡◌, max, ◌^◌, ◌≤◌, pairs_lent, pairs_from, difference_at, greatest_over}
use Rattle.conformity.proofs.Greatest.{Follows}
use Rattle.conformity.proofs.differences.greatest.Given as goal

abbrev pub invariant-loop-i : goal.invariant-loop-i
invariant-loop-i l =
    let of = difference_at (pairs_lent l.own) (pairs_lent l.other) in
    (l.most ≤ 2 ^ 45) × Follows l.own l.other l.before l.i × (max l.most (greatest_over of (pairs_from l.own l.i)) ≡ greatest_over of (pairs_lent l.own))
