use Rattle.build.proofs.Names.{◌≡◌, None, ◌+◌, ◌-◌, ◌≤◌, length, tenths_before, unpacked}
use Rattle.build.proofs.CurveTurns.{CurveDone}
use Rattle.build.proofs.curve_plan.plan_segments.Given as goal

abbrev pub invariant-loop-j : goal.invariant-loop-j
invariant-loop-j l = (l.count ≤ 20) × (length l.segments ≡ 20) × (length l.terms ≡ 30) × (l.j ≤ l.end) × CurveDone l.count l.segments l.terms (length l.initial.codes) (unpacked l.codes) (l.before) (tenths_before (l.last)) (l.i + 1) l.j (l.end - l.j)

abbrev pub invariant-loop-i : goal.invariant-loop-i
invariant-loop-i l = (l.count ≤ 20) × (length l.segments ≡ 20) × (length l.terms ≡ 30) × CurveDone l.count l.segments l.terms (length l.initial.codes) (unpacked l.codes) (l.before) None l.i l.total 0
