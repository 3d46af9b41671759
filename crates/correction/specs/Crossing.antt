-- Document 02, Note 9: the fraction from a table by physical point. Its
-- definition, a computed form, and "there is one crossing and no second".
use Rattle.std.specs.Prelude.{◌≡◌, ◌*◌, cond, ◌↔◌, List, [], ◌∷◌, ℤ, pos, ◌+ℤ◌, ◌-ℤ◌, ◌*ℤ◌, ◌≤ℤ◌, ◌<ℤ◌, int_le, unsigned_abs}
use Rattle.integers.specs.Ceiling.{ceiling}
use Rattle.integers.specs.Nearest.{Fraction}
use Rattle.templates.specs.declared.Pair.{Pair}
use Rattle.correction.specs.Line.{certificate_line}
use Rattle.correction.specs.Certificate.{Neighbours, Rises}

-- A point plus its deviation.
abbrev pub sum : Pair → ℤ
sum p = p.point +ℤ p.deviation

-- Points plus deviations rise strictly.
abbrev pub SumsRise : List Pair → Type 0
SumsRise = Neighbours (λ p r. sum p <ℤ sum r)

-- ---- the definition

-- A fraction is at least a whole number.
infix 5 ◌reaches◌
abbrev pub ◌reaches◌ : Fraction → ℤ → Type 0
◌reaches◌ f p = (p *ℤ pos f.den) ≤ℤ f.num

-- "q plus the exact deviation at q is at least p"
abbrev pub Meets : List Pair → ℤ → ℤ → Type 0
Meets pairs p q = certificate_line pairs q 1 reaches p

-- "the least whole q for which q plus the exact deviation at q is at least p"
pub record Crossing (pairs : List Pair) (p q : ℤ) : Type 0 where
  pub meets : Meets pairs p q
  pub least : (k : ℤ) → Meets pairs p k → q ≤ℤ k

-- ---- the computed form

-- The crossing where one deviation holds.
abbrev pub crossing_held : ℤ → Pair → ℤ
crossing_held p a = p -ℤ a.deviation

-- Between neighbours q plus the deviation rises by `climb` over `run`. So
-- it has risen by `above` at above × run / climb after the left point.
unfoldable pub crossing_between : ℤ → Pair → Pair → ℤ
crossing_between p a b =
    let above = unsigned_abs (p -ℤ sum a) in
    let climb = unsigned_abs (sum b -ℤ sum a) in
    let run = unsigned_abs (b.point -ℤ a.point) in
    a.point +ℤ pos (ceiling (above * run) climb)

-- From a sum on: up to the next sum between the two
-- points, from the last sum on by the last deviation.
unfoldable pub crossing_after : ℤ → Pair → List Pair → ℤ
crossing_after p a [] = crossing_held p a
crossing_after p a (b ∷ pairs) = cond (int_le p (sum b)) (crossing_between p a b) (crossing_after p b pairs)

-- Without points p itself; up to the first sum by the first deviation.
unfoldable pub crossing : List Pair → ℤ → ℤ
crossing [] p = p
crossing (a ∷ pairs) p = cond (int_le p (sum a)) (crossing_held p a) (crossing_after p a pairs)

-- ---- both agree

-- The computed form is the crossing, nothing else is, and
-- the whole numbers that meet p are those from it on.
pub record OneCrossing (pairs : List Pair) (p : ℤ) : Type 0 where
  pub is : Crossing pairs p (crossing pairs p)
  pub one : (q : ℤ) → Crossing pairs p q → q ≡ crossing pairs p
  pub from : (k : ℤ) → Meets pairs p k ↔ crossing pairs p ≤ℤ k

-- There is one crossing for every p and every table whose
-- points rise and whose points plus deviations rise.
abbrev pub Crosses : Type 0
Crosses = (pairs : List Pair) → Rises pairs → SumsRise pairs → (p : ℤ) → OneCrossing pairs p
