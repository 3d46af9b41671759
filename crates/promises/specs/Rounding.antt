-- Document 01, "Reading": a position and a deviation go "to the nearest whole, halves upward".
use Rattle.std.specs.Prelude.{◌≡◌, List, ◌↔◌, ◌<◌, ℤ, pos, nat_abs, ◌+ℤ◌, ◌-ℤ◌, ◌*ℤ◌, ◌≤ℤ◌, ◌<ℤ◌}
use Rattle.integers.specs.Nearest.{Fraction, ◌over◌, nearest}
use Rattle.templates.specs.declared.Pair.{Pair}
use Rattle.codes.specs.Units.{billion}
use Rattle.correction.specs.Line.{correction, deviation}
use Rattle.correction.specs.Certificate.{Rises}
use Rattle.reading.specs.Reading.{position}

-- k − 1/2 ≤ num / den < k + 1/2, multiplied out by 2 × den: a half goes up, above 0 and below.
pub record HalvesUp (f : Fraction) (k : ℤ) : Type 0 where
  pub low : (pos 2 *ℤ (k *ℤ pos f.den) -ℤ pos f.den) ≤ℤ (pos 2 *ℤ f.num)
  pub high : (pos 2 *ℤ f.num) <ℤ (pos 2 *ℤ (k *ℤ pos f.den) +ℤ pos f.den)

-- The nearest whole of any fraction is within these bounds, and no other whole number is.
abbrev pub NearestHalvesUp : Type 0
NearestHalvesUp = (f : Fraction) (k : ℤ) → 0 < f.den → (nearest f ≡ k) ↔ HalvesUp f k

-- The position p, the nearest to (v − e) × 1,000,000,000 / (f − e).
abbrev pub PositionHalvesUp : Type 0
PositionHalvesUp = (v e f : ℤ) → e <ℤ f → HalvesUp ((v -ℤ e) *ℤ pos billion over nat_abs (f -ℤ e)) (position v e f)

-- The deviation, the nearest to the exact correction.
abbrev pub DeviationHalvesUp : Type 0
DeviationHalvesUp = (pairs : List Pair) (p : ℤ) → Rises pairs → let c = correction p 1 pairs in HalvesUp (c.num over c.run) (deviation pairs p)
