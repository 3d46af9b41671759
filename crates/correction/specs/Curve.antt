-- Document 02, Note 11: the float fraction of a curve. All is computed
-- in f64, each operation rounded once. Every f32 is also an f64.
use Rattle.std.specs.Prelude.{ℕ, suc, ◌-◌, List, [], ◌∷◌, ◌++◌, replicate, ℤ, pos, unsigned_abs, Float}
use Rattle.std.specs.Float.{binary64}
use Rattle.std.specs.Float.Ieee.{add, mul, div, of_int}
use Rattle.templates.specs.declared.Term.{Term}

abbrev pub float_zero : Float
float_zero = of_int binary64 (pos 0)

-- The coefficient of each power from a power on, "absent powers as 0".
unfoldable pub coefficients : ℕ → List Term → List Float
coefficients power [] = []
coefficients power (t ∷ terms) =
    let own = unsigned_abs t.exponent in
    replicate (own - power) float_zero ++ (t.coefficient ∷ coefficients (suc own) terms)

-- "by the nested rule from the highest power": c0 + (c1 + (.. (c4 + c5 × x) × x ..) × x) × x.
unfoldable pub nested : Float → List Float → Float
nested x [] = float_zero
nested x (c ∷ []) = c
nested x (c ∷ d ∷ ds) = add binary64 (mul binary64 (nested x (d ∷ ds)) x) c

-- "The argument is p divided once by the billionths in the unit
-- Annex A gives the segment start": a per cent, 10,000,000.
unfoldable pub argument : ℤ → Float
argument p = div binary64 (of_int binary64 p) (of_int binary64 (pos 10_000_000))

-- "Argument plus correction, divided once by the units in a whole
-- span": 100. The correction has a coefficient for each power.
unfoldable pub fraction_by : List Float → ℤ → Float
fraction_by powers p =
    let x = argument p in
    div binary64 (add binary64 x (nested x powers)) (of_int binary64 (pos 100))

-- The fraction by the terms of the segment that serves.
abbrev pub fraction_of : List Term → ℤ → Float
fraction_of terms p = fraction_by (coefficients 0 terms) p
