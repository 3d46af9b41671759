-- Document 01, "Reading": the exact line. One definition gives
-- - the correction at x = X / F, straight between neighbouring points;
-- - the deviation at a whole position, the correction there to the nearest whole;
-- - demand 3's line, x plus the correction.
use Rattle.std.specs.Prelude.{ℕ, ◌*◌, cond, List, [], ◌∷◌, ℤ, pos, ◌+ℤ◌, ◌-ℤ◌, ◌*ℤ◌, int_le, unsigned_abs}
use Rattle.integers.specs.Nearest.{Fraction, ◌over◌, nearest}
use Rattle.templates.specs.declared.Pair.{Pair}

-- At x = X / F a correction is num / (F × run), with the run between neighbours, and 1 elsewhere.
pub record Correction : Type 0 where
  pub num : ℤ
  pub run : ℕ

-- Before the first point and after the last: "the end deviation holds".
abbrev pub at_end : ℕ → Pair → Correction
at_end F p = record { num = p.deviation *ℤ pos F; run = 1 }

-- "between neighbours (a, s) and (b, t) it is s + (t − s) × (x − a) / (b − a)"
unfoldable pub between : ℤ → ℕ → Pair → Pair → Correction
between X F p r =
    let run = r.point -ℤ p.point in
    record {
      num = p.deviation *ℤ (run *ℤ pos F) +ℤ (r.deviation -ℤ p.deviation) *ℤ (X -ℤ p.point *ℤ pos F);
      run = unsigned_abs run;
    }

-- From a point on: "the last from the last point on".
unfoldable pub correction_after : ℤ → ℕ → Pair → List Pair → Correction
correction_after X F p [] = at_end F p
correction_after X F p (r ∷ pairs) = cond (int_le X (r.point *ℤ pos F)) (between X F p r) (correction_after X F r pairs)

-- "The correction c at x is 0 without points, the first deviation up to the first point".
unfoldable pub correction : ℤ → ℕ → List Pair → Correction
correction X F [] = record { num = pos 0; run = 1 }
correction X F (p ∷ pairs) = cond (int_le X (p.point *ℤ pos F)) (at_end F p) (correction_after X F p pairs)

-- The deviation at a whole p: "exact, then to the nearest whole, halves upward".
unfoldable pub deviation : List Pair → ℤ → ℤ
deviation pairs p = let c = correction p 1 pairs in nearest (c.num over c.run)

-- "The line at x is x + c", at x = X / F.
unfoldable pub certificate_line : List Pair → ℤ → ℕ → Fraction
certificate_line pairs X F = let c = correction X F pairs in X *ℤ pos c.run +ℤ c.num over F * c.run
