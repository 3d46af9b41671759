-- Document 02, Note 8: full-precision end values. A Single in V/V is the exact
-- fraction that its bits mean; it is turned "into the nearest nV/V, halves upward".
use Rattle.std.specs.Prelude.{◌≡◌, Bool, false, not, ◌||◌, cond, ℕ, ◌*◌, ◌≤◌, ℤ, pos, neg_ℤ, nat_abs, ◌*ℤ◌, ◌≤ℤ◌, Float}
use Rattle.std.specs.Float.{nan, inf, fin}
use Rattle.std.specs.Float.Ieee.{up, down}
use Rattle.integers.specs.Nearest.{Fraction, ◌over◌, nearest}
use Rattle.codes.specs.Rules.{finite, outside}
use Rattle.codes.specs.Units.{billion}
use Rattle.codes.specs.Stored.{Nearest}

-- n with a sign: ±n.
abbrev pub signed : Bool → ℕ → ℤ
signed negative n = cond negative (neg_ℤ (pos n)) (pos n)

-- The exact value of a finite Single, ±m × 2^e: over 2^−e
-- if e is below 0. An infinity or NaN has none, and gets 0.
abbrev pub exact : Float → Fraction
exact nan = pos 0 over 1
exact (inf negative) = pos 0 over 1
exact (fin negative m e) = signed negative (m * up e) over down e

-- Below −2 or above 2 V/V, or not finite. −2 and 2 are inside.
unfoldable pub outside_two : Float → Bool
outside_two x =
    let v = exact x in
    not (finite x) || outside (neg_ℤ (pos 2) *ℤ pos v.den) (pos 2 *ℤ pos v.den) v.num

-- The exact value in nV/V, a billion of which are a V/V.
abbrev pub exact_nanovolts : Float → Fraction
exact_nanovolts x = (exact x).num *ℤ pos billion over (exact x).den

-- The nearest nV/V, halves upward.
unfoldable pub nanovolts : Float → ℤ
nanovolts x = nearest (exact_nanovolts x)

-- ---- what holds of the nearest nV/V, also of minus zero, subnormals and the smallest exponents

-- At most half a nV/V from the exact value, and exactly half only above
-- it. Both are counted in parts of the fraction, den of which are a nV/V.
abbrev pub NanovoltsNearest : Type 0
NanovoltsNearest = (x : Float) → let v = exact_nanovolts x in Nearest v.den v.num (nanovolts x *ℤ pos v.den)

-- The nearest nV/V rises with the exact value of the Single.
abbrev pub NanovoltsRise : Type 0
NanovoltsRise =
    (x y : Float) → ((exact x).num *ℤ pos (exact y).den) ≤ℤ ((exact y).num *ℤ pos (exact x).den) → nanovolts x ≤ℤ nanovolts y

-- From −2 to 2 V/V the nearest nV/V is from −2,000,000,000 to 2,000,000,000.
abbrev pub NanovoltsWithin : Type 0
NanovoltsWithin = (x : Float) → outside_two x ≡ false → nat_abs (nanovolts x) ≤ 2_000_000_000
