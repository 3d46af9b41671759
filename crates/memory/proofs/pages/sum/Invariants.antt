-- The loop's invariant: the sum so far plus the sum of the rest is the whole sum.
use Rattle.memory.proofs.Names.{◌≡◌, ◌+◌, ◌%◌, ◌<◌, drop, total}
use Rattle.memory.proofs.pages.sum.Given as goal

abbrev pub invariant-loop-b : goal.invariant-loop-b
invariant-loop-b l = ((l.sum + total (drop l.b-index l.bytes)) % 256 ≡ total l.bytes % 256) × (l.sum < 256)
