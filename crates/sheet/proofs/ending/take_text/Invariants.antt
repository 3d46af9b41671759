use Rattle.sheet.proofs.Names.{◌≡◌, ◌≤◌, length, parse, characters_of, stream_in, keeping}
use Rattle.sheet.proofs.Steps.{count_left}
use Rattle.sheet.proofs.ending.take_text.Given as goal

abbrev pub invariant-loop-left : goal.invariant-loop-left
invariant-loop-left l = (l.left ≤ l.most) × (count_left (stream_in l.sizes l.image) characters_of l.most l.left l.cursor.at ≡ keeping length (parse (stream_in l.sizes l.image) (characters_of l.most) l.initial.cursor.at))

abbrev pub decreases-loop-left : goal.decreases-loop-left
decreases-loop-left l = l.left
