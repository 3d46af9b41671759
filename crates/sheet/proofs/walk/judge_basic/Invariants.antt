-- A row that refuses ends the loop. After the last row that can refuse, every field is open.
use Rattle.sheet.proofs.Names.{suc, ◌-◌, Bridge}
use Rattle.sheet.proofs.WalkSteps.{BasicJudgedUpTo}
use Rattle.sheet.proofs.walk.judge_basic.Given as goal

abbrev pub invariant-loop-field : goal.invariant-loop-field
invariant-loop-field l = BasicJudgedUpTo Bridge l.sizes l.image l.field l.cursor.at

abbrev pub decreases-loop-field : goal.decreases-loop-field
decreases-loop-field l = suc l.last - l.field
