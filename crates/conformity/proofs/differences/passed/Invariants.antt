-- The loop's invariant: the last of the points passed is before p.
use Rattle.conformity.proofs.Exacts.{Passed}
use Rattle.conformity.proofs.differences.passed.Given as goal

abbrev pub invariant-loop-n : goal.invariant-loop-n
invariant-loop-n l = Passed l.points l.p l.n
