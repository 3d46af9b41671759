use Rattle.build.proofs.Names.{◌≡◌, ◌/◌, ◌≤◌, length, pairs_lent, pair_pieces, table_pieces, tested}
use Rattle.build.proofs.PairTurns.{pairs_from}
use Rattle.build.proofs.plan.check_points.Given as goal

abbrev pub invariant-loop-i : goal.invariant-loop-i
invariant-loop-i l = (l.i ≤ length l.points / 2) × (tested (pair_pieces l.domain (l.before) l.i (pairs_from l.points l.i)) ≡ tested (table_pieces l.domain (pairs_lent l.points)))
