use Rattle.sheet.proofs.Names.{suc, ◌-◌, Bridge, layout_at}
use Rattle.sheet.proofs.WalkSteps.{OwnJudgedUpTo}
use Rattle.sheet.proofs.walk.judge_bridge.Given as goal

abbrev pub invariant-loop-field : goal.invariant-loop-field
invariant-loop-field l = OwnJudgedUpTo l.sizes l.image (layout_at Bridge l.precision) l.field l.cursor.at

abbrev pub decreases-loop-field : goal.decreases-loop-field
decreases-loop-field l = suc l.last - l.field
