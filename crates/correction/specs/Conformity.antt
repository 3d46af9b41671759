-- Any two tables whose points rise: how far apart their corrections are at a
-- whole position, and the distance from the certificate line that follows.
-- Nothing is rounded: both sides are whole numbers, multiplied out.
use Rattle.std.specs.Prelude.{ℕ, ◌+◌, ◌*◌, ◌≤◌, List, [], ◌∷◌, ℤ, pos, ◌-ℤ◌, ◌*ℤ◌, unsigned_abs}
use Rattle.integers.specs.Nearest.{Fraction}
use Rattle.templates.specs.declared.Pair.{Pair}
use Rattle.correction.specs.Line.{Correction, correction}

-- 2000 × the distance of two corrections at a whole
-- position is at most M, multiplied out by both runs.
abbrev pub Agree : ℕ → Correction → Correction → Type 0
Agree M c e = 2000 * unsigned_abs (c.num *ℤ pos e.run -ℤ e.num *ℤ pos c.run) ≤ M * (c.run * e.run)

-- The corrections of the stored and of the lent points at x agree within M / 2000.
abbrev pub Conforms : ℕ → List Pair → List Pair → ℤ → Type 0
Conforms M stored lent x = Agree M (correction x 1 stored) (correction x 1 lent)

-- The property holds at each point.
abbrev pub AtPoints : (ℤ → Type 0) → List Pair → Type 0
AtPoints so [] = Unit {0}
AtPoints so (p ∷ pairs) = so p.point × AtPoints so pairs

-- 2000 × the distance of q from a point of the line is at most
-- 2000 + K + M, multiplied out by the line's denominator.
abbrev pub WithinOf : ℕ → ℕ → ℤ → Fraction → Type 0
WithinOf M K q line = 2000 * unsigned_abs (q *ℤ pos line.den -ℤ line.num) ≤ (2000 + K + M) * line.den
