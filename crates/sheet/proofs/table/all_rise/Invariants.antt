use Rattle.sheet.proofs.Names.{◌≡◌, ◌+◌, ◌*◌, ◌≤◌, stream_in, pair_bits}
use Rattle.sheet.proofs.TableSteps.{Risen}
use Rattle.sheet.proofs.table.all_rise.Given as goal

abbrev pub invariant-loop-left : goal.invariant-loop-left
invariant-loop-left l = (l.left ≤ l.count) × (l.cursor.at + pair_bits * l.left ≡ l.initial.cursor.at + pair_bits * l.count) × Risen (stream_in l.sizes l.image) l.domain l.count l.initial.cursor.at l.cursor.at l.least l.floor l.left

abbrev pub decreases-loop-left : goal.decreases-loop-left
decreases-loop-left l = l.left
