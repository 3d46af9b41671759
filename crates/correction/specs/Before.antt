-- Only inner contracts need this: where a position is in a table, as the code finds it.
use Rattle.std.specs.Prelude.{◌≡◌, ℕ, ◌+◌, ◌<◌, ◌≤◌, List, length, ℤ, ◌≤ℤ◌, ◌<ℤ◌, slice_index_or}
use Rattle.templates.specs.declared.Pair.{Pair}
use Rattle.templates.specs.Calibration.{no_pair}

abbrev pub point_of : Pair → ℤ
point_of q = q.point

-- n pairs come before a position, by a figure of each, such as
-- its point: the last of them is below it, the next is not.
pub record Before (of : Pair → ℤ) (pairs : List Pair) (p : ℤ) (n : ℕ) : Type 0 where
  pub most : n ≤ length pairs
  pub below : (k : ℕ) → k + 1 ≡ n → of (slice_index_or pairs k no_pair) <ℤ p
  pub above : n < length pairs → p ≤ℤ of (slice_index_or pairs n no_pair)
