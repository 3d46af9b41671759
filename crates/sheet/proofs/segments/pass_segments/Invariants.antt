use Rattle.sheet.proofs.Names.{◌≡◌, ◌+◌, ◌*◌, ◌≤◌, stream_in, behind_segments}
use Rattle.sheet.proofs.segments.pass_segments.Given as goal

abbrev pub invariant-loop-left : goal.invariant-loop-left
invariant-loop-left l = (l.cursor.at + 4_973 * l.left ≤ l.initial.cursor.at + 4_973 * l.count) × (behind_segments (stream_in l.sizes l.image) l.cursor.at l.left ≡ behind_segments (stream_in l.sizes l.image) l.initial.cursor.at l.count)

abbrev pub decreases-loop-left : goal.decreases-loop-left
decreases-loop-left l = l.left
