-- The array is filled word by word; the measure is the number of fields left.
use Rattle.commands.proofs.Names.{◌≤◌, ◌≡◌, length, replicate, slot, Missing, slot_at}
use Rattle.commands.proofs.LineLaws.{Arraying}
use Rattle.commands.proofs.builds.slots_of.Given as goal

abbrev pub invariant-loop-at : goal.invariant-loop-at
invariant-loop-at l = Arraying (slot_at l.line) (replicate 21 (slot Missing)) l.last 5 l.fields l.at × (l.last ≤ 21) × (length l.fields ≡ 21)
