use Rattle.sheet.proofs.Names.{◌≡◌, ◌+◌, ◌*◌, ◌≤◌, stream_in, term_place}
use Rattle.sheet.proofs.segments.find_term.Given as goal

abbrev pub invariant-loop-left : goal.invariant-loop-left
invariant-loop-left l = (l.cursor.at + 4_973 * l.left ≤ l.initial.cursor.at + 4_973 * l.segments) × (term_place (stream_in l.sizes l.image) l.cursor.at l.left l.ahead ≡ term_place (stream_in l.sizes l.image) l.initial.cursor.at l.segments l.index)

abbrev pub decreases-loop-left : goal.decreases-loop-left
decreases-loop-left l = l.left
