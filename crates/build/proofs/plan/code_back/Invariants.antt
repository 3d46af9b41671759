use Rattle.build.proofs.Names.{◌≤◌, ◌+◌, ◌-◌, last_field, FieldsCoded}
use Rattle.build.proofs.plan.code_back.Given as goal

abbrev pub invariant-loop-j : goal.invariant-loop-j
invariant-loop-j l = (l.j ≤ 4) × FieldsCoded l.template l.values.tags.now l.values.wholes.now l.values.singles.now l.codes l.precision (last_field l.template - 4 + l.j)
