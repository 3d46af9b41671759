use Rattle.sheet.proofs.Names.{◌≡◌, None, ◌≤◌, length, parse, pairs_of, stream_in, keeping}
use Rattle.sheet.proofs.TableSteps.{pairs_left}
use Rattle.sheet.proofs.table.take_each.Given as goal

abbrev pub invariant-loop-left : goal.invariant-loop-left
invariant-loop-left l = (l.left ≤ l.count) × (pairs_left (stream_in l.sizes l.image) l.domain l.count (l.before) l.left l.cursor.at ≡ keeping length (parse (stream_in l.sizes l.image) (pairs_of l.domain l.count None) l.initial.cursor.at))

abbrev pub decreases-loop-left : goal.decreases-loop-left
decreases-loop-left l = l.left
