-- Statements of the greatest difference: it is no greater than necessary.
use Rattle.std.specs.Prelude.{List, [], ◌∷◌, ◌⊎◌, ℕ, ◌+◌, ◌*◌, ◌<◌, ℤ, pos, nat_abs, ◌-ℤ◌, ◌*ℤ◌}
use Rattle.templates.specs.declared.Pair.{Pair}
use Rattle.correction.specs.Line.{correction}

-- 2000 × the difference of the corrections at x is more than M − 1, multiplied out by both runs.
abbrev pub Attains : ℕ → List Pair → List Pair → ℤ → Type 0
Attains M stored lent x =
    let c = correction x 1 stored in
    let e = correction x 1 lent in
    M * (c.run * e.run) < 2000 * nat_abs (c.num *ℤ pos e.run -ℤ e.num *ℤ pos c.run) + c.run * e.run

-- The property holds at some point of a list.
abbrev pub AtSome : (ℤ → Type 0) → List Pair → Type 0
AtSome so [] = ⊥
AtSome so (p ∷ pairs) = so p.point ⊎ AtSome so pairs
