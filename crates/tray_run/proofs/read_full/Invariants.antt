-- The buffer keeps its length, and the measure is what is left of it.
use Rattle.tray_run.proofs.Names.{◌-◌, ◌≡◌, ◌≤◌, length}
use Rattle.tray_run.proofs.read_full.Given as goal

abbrev pub invariant-loop-received : goal.invariant-loop-received
invariant-loop-received g l = (length l.buffer ≡ length l.initial.buffer) × (l.received ≤ length l.buffer)

abbrev pub decreases-loop-received : goal.decreases-loop-received
decreases-loop-received g l = length l.buffer - l.received
