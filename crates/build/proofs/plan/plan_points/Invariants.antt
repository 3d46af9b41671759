use Rattle.build.proofs.Names.{length, unpacked}
use Rattle.build.proofs.PairTurns.{PointsDone}
use Rattle.build.proofs.plan.plan_points.Given as goal

abbrev pub invariant-loop-i : goal.invariant-loop-i
invariant-loop-i l = PointsDone l.domain l.points (length l.initial.codes) (unpacked l.codes) (l.before) l.i
