-- The loop's invariant: no row from row r on differs.
use Rattle.writing.proofs.Names.{◌≡◌, false, ℕ, ◌/◌, ◌≤◌, ◌<◌, length, differs, raised}
use Rattle.writing.proofs.rows.last_raised.Given as goal

abbrev pub invariant-loop-r : goal.invariant-loop-r
invariant-loop-r l = (k : ℕ) → l.r ≤ k → k < length l.present / 8 → differs l.present (raised l.wanted l.at 1) k ≡ false
