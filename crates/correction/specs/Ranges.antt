-- Only inner contracts need this: bounds of the figures
-- of a stored table, so that nothing overflows.
use Rattle.std.specs.Prelude.{ℕ, ◌+◌, ◌^◌, ◌≤◌, List, [], ◌∷◌, ℤ, pos, ◌≤ℤ◌, ◌<ℤ◌, unsigned_abs}
use Rattle.templates.specs.declared.Pair.{Pair}
use Rattle.correction.specs.Certificate.{Rises}

-- A stored pair: the point is from 0 to 2^30, the deviation from −2^32 to 2^32.
pub record Figures (q : Pair) : Type 0 where
  pub least : pos 0 ≤ℤ q.point
  pub point : unsigned_abs q.point ≤ 2 ^ 30
  pub deviation : unsigned_abs q.deviation ≤ 2 ^ 32

abbrev pub AllFigures : List Pair → Type 0
AllFigures [] = Unit {0}
AllFigures (q ∷ points) = Figures q × AllFigures points

-- A stored table.
pub record Table (points : List Pair) : Type 0 where
  pub rises : Rises points
  pub figures : AllFigures points

-- A position after a calibration point, up to the
-- next, by a figure of each, such as the point itself.
pub record Between (of : Pair → ℤ) (p : ℤ) (before behind : Pair) : Type 0 where
  pub rise : before.point <ℤ behind.point
  pub past : of before <ℤ p
  pub left : p ≤ℤ of behind
  pub first : Figures before
  pub second : Figures behind

-- The parts of two deviations above 0, or below, and the
-- distances of a position from the points before and after it.
pub record Weights (s t past left : ℕ) : Type 0 where
  pub first : s ≤ 2 ^ 32
  pub second : t ≤ 2 ^ 32
  pub run : past + left ≤ 2 ^ 30
