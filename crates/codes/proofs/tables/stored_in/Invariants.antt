-- The loop's invariant: the code is from `low` to `high`.
use Rattle.codes.proofs.Names.{◌-◌, ◌≤◌, length, stored_at, listed}
use Rattle.codes.proofs.tables.stored_in.Given as goal

abbrev pub invariant-loop-low : goal.invariant-loop-low
invariant-loop-low l = let code = stored_at (listed l.values) (length l.values - 1) l.figure in (l.high ≤ length l.values - 1) × (l.low ≤ code) × (code ≤ l.high)

abbrev pub decreases-loop-low : goal.decreases-loop-low
decreases-loop-low l = l.high - l.low
