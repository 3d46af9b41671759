-- Document 02, Note 8: a Single in nV/V "from its own bits": the sign, the exponent
-- field of 8 bits and 23 digits, subnormals too, "against the exact power of two".
use Rattle.std.specs.Prelude.{◌≡◌, Bool, ℕ, zero, suc, ◌+◌, ◌*◌, ◌/◌, ◌%◌, ◌^◌, ◌<◌, leb, pos, ◌*ℤ◌}
use Rattle.std.specs.Float.{binary32}
use Rattle.std.specs.Float.Ieee.{of_bits}
use Rattle.integers.specs.Nearest.{Fraction, ◌over◌, nearest}
use Rattle.codes.specs.Units.{billion}
use Rattle.codes.specs.Singles.{signed, nanovolts}

-- The sign is the highest bit.
abbrev pub is_negative : ℕ → Bool
is_negative bits = leb (2 ^ 31) bits

abbrev pub exponent_field : ℕ → ℕ
exponent_field bits = bits % 2 ^ 31 / 2 ^ 23

abbrev pub digits : ℕ → ℕ
digits bits = bits % 2 ^ 23

-- The size in units of 2^−149: a subnormal's digits; else 2^23 and
-- the digits, times 2 for each step of the exponent from 1 on.
abbrev pub units_of : ℕ → ℕ → ℕ
units_of zero digits = digits
units_of (suc x) digits = (2 ^ 23 + digits) * 2 ^ x

-- ± units / 2^149, in V/V.
abbrev pub value_of_bits : ℕ → Fraction
value_of_bits bits = signed (is_negative bits) (units_of (exponent_field bits) (digits bits)) over 2 ^ 149

-- The nearest nV/V of a Single's bits, "halves upward"; for every
-- pattern but infinities and NaNs, whose exponent field is all ones.
abbrev pub NanovoltsOfBits : Type 0
NanovoltsOfBits =
    (bits : ℕ) → exponent_field bits < 255 →
    let v = value_of_bits bits in nanovolts (of_bits binary32 bits) ≡ nearest (v.num *ℤ pos billion over v.den)
