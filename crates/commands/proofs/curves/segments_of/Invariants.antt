-- The array is filled pair by pair; the measure is the number of pairs left.
use Rattle.commands.proofs.Names.{◌≤◌, ◌≡◌, length, replicate, no_segment, segment_at}
use Rattle.commands.proofs.LineLaws.{Arraying}
use Rattle.commands.proofs.curves.segments_of.Given as goal

abbrev pub invariant-loop-at : goal.invariant-loop-at
invariant-loop-at l = Arraying (segment_at l.list) (replicate 20 no_segment) l.count 0 l.segments l.at × (l.count ≤ 20) × (length l.segments ≡ 20)
