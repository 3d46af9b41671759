use Rattle.build.proofs.Names.{◌≤◌, ◌-◌, last_field, FieldsCoded}
use Rattle.build.proofs.plan.code_own.Given as goal

abbrev pub invariant-loop-i : goal.invariant-loop-i
invariant-loop-i l = (8 ≤ l.i) × (l.i ≤ last_field l.template - 4) × FieldsCoded l.template l.values.tags.now l.values.wholes.now l.values.singles.now l.codes l.precision l.i
