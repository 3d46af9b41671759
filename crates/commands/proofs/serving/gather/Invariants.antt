-- The buffer keeps its length, the line grows byte by
-- byte, and the measure is what is left of the block.
use Rattle.commands.proofs.Names.{◌-◌, ◌≡◌, drop, length, after, come_said}
use Rattle.commands.proofs.serving.gather.Given as goal

abbrev pub invariant-loop-at : goal.invariant-loop-at
invariant-loop-at g l = (length l.line ≡ length l.initial.line) × (after (length l.initial.line) (come_said l.line l.so_far) (drop l.at l.block) ≡ after (length l.initial.line) (come_said l.initial.line l.initial.so_far) l.block)

abbrev pub decreases-loop-at : goal.decreases-loop-at
decreases-loop-at g l = length l.block - l.at
