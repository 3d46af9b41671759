-- Document 01, "Reading", demand 3: what the claim requires of the lent and the stored
-- points, and the distance that it allows. It is for any step D of points and R of
-- deviations. "Nothing here is rounded": both sides are whole numbers, multiplied out.
use Rattle.std.specs.Prelude.{ℕ, ◌+◌, ◌*◌, ◌≤◌, List, [], ◌∷◌, ℤ, pos, ◌-ℤ◌, ◌*ℤ◌, ◌<ℤ◌, unsigned_abs}
use Rattle.integers.specs.Nearest.{Fraction}
use Rattle.templates.specs.declared.Pair.{Pair}

-- The property holds for every two neighbours.
abbrev pub Neighbours : (Pair → Pair → Type 0) → List Pair → Type 0
Neighbours so [] = Unit {0}
Neighbours so (p ∷ []) = Unit {0}
Neighbours so (p ∷ r ∷ pairs) = so p r × Neighbours so (r ∷ pairs)

-- The points rise strictly.
abbrev pub Rises : List Pair → Type 0
Rises = Neighbours (λ p r. p.point <ℤ r.point)

-- 1000 × each rise or fall is at most K × its run.
abbrev pub Slopes : ℕ → List Pair → Type 0
Slopes K = Neighbours (λ p r. 1000 * unsigned_abs (r.deviation -ℤ p.deviation) ≤ K * unsigned_abs (r.point -ℤ p.point))

-- As many pairs are stored as lent, each point within half of D, each deviation within half of R.
abbrev pub Close : ℕ → ℕ → List Pair → List Pair → Type 0
Close D R [] [] = Unit {0}
Close D R [] (q ∷ stored) = ⊥
Close D R (p ∷ lent) [] = ⊥
Close D R (p ∷ lent) (q ∷ stored) =
    (2 * unsigned_abs (q.point -ℤ p.point) ≤ D) × (2 * unsigned_abs (q.deviation -ℤ p.deviation) ≤ R) × Close D R lent stored

-- Twice the distance of q from a point of the line is at most 2 + R + K ×
-- (D + 1) / 1000, multiplied out by 1000 and by the line's denominator.
abbrev pub Within : ℕ → ℕ → ℕ → ℤ → Fraction → Type 0
Within D R K q line = 2000 * unsigned_abs (q *ℤ pos line.den -ℤ line.num) ≤ (2000 + 1000 * R + K * (D + 1)) * line.den
