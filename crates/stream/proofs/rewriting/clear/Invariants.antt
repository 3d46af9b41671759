-- The loop's invariant: zeros up to the loop's place, and after them the image unchanged.
use Rattle.stream.proofs.Names.{◌≡◌, ◌++◌, drop, replicate}
use Rattle.stream.proofs.rewriting.clear.Given as goal

abbrev pub invariant-loop-byte : goal.invariant-loop-byte
invariant-loop-byte l = l.byte-items ≡ replicate l.byte-index 0 ++ drop l.byte-index l.initial.byte-items
