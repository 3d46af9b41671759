-- A Single as a person sees it: the value of its bits, and the position of its decimal point.
use Rattle.std.specs.Prelude.{◌≡◌, cond, ℕ, ◌+◌, ◌-◌, ◌^◌, ◌<◌, leb, ltb}
use Rattle.std.specs.Float.{binary32}
use Rattle.std.specs.Float.Ieee.{of_bits, odd, prec, low}
use Rattle.listing.specs.declared.singles.Scaled.{Scaled}
use Rattle.listing.specs.declared.singles.Shape.{Shape}
use Rattle.listing.specs.declared.singles.Shape.TheVariants.{Raised, Lowered, Whole, Split, Behind}

-- The Single of these bits is m × 2^p / 2^149, with its sign.
pub record Scales (bits : ℕ) (r : Scaled) : Type 0 where
  pub is : of_bits binary32 bits ≡ odd (prec binary32) r.negative r.m r.p (low binary32)
  pub digits : r.m < 2 ^ 24
  pub power : r.p < 256

-- The position of the decimal point, with `whole` digits before it.
-- Up to ten it is plain, with zeros after the digits if they do not
-- reach it; else one digit is before it, and a power of ten follows.
abbrev pub large : ℕ → ℕ → Shape
large count whole = cond (ltb 10 whole) (Raised (whole - 1)) (cond (leb count whole) (Whole (whole - count)) (Split whole))

-- The position of the decimal point, with this many
-- zeros between it and the digits: plain up to four.
abbrev pub small : ℕ → Shape
small noughts = cond (ltb 4 noughts) (Lowered (noughts + 1)) (Behind noughts)

-- The shape of digits with `up` zeros after them, and the decimal point this many places up.
abbrev pub shape : ℕ → ℕ → ℕ → Shape
shape count up point = cond (ltb point (up + count)) (large count (up + count - point)) (small (point - (up + count)))

-- The value of the digits in a shape: times 10^raised / 10^lowered.
abbrev pub raised : Shape → ℕ
raised (Raised power) = power
raised (Lowered power) = 0
raised (Whole noughts) = noughts
raised (Split whole) = 0
raised (Behind noughts) = 0

abbrev pub lowered : ℕ → Shape → ℕ
lowered count (Raised power) = count - 1
lowered count (Lowered power) = count - 1 + power
lowered count (Whole noughts) = 0
lowered count (Split whole) = count - whole
lowered count (Behind noughts) = count + noughts

-- The shape is the defined one, and its value is digits × 10^up / 10^point.
pub record Shapes (count up point : ℕ) (r : Shape) : Type 0 where
  pub is : r ≡ shape count up point
  pub worth : 0 < count → raised r + point ≡ lowered count r + up
