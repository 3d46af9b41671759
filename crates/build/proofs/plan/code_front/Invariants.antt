use Rattle.build.proofs.Names.{◌≤◌, length, basic, FieldsCoded}
use Rattle.build.proofs.plan.code_front.Given as goal

abbrev pub invariant-loop-i : goal.invariant-loop-i
invariant-loop-i l = (length basic ≤ l.i) × (l.i ≤ 8) × FieldsCoded l.template l.values.tags.now l.values.wholes.now l.values.singles.now l.codes l.precision l.i
