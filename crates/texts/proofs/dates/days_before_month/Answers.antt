-- Antt computes the table from the calendar, and tests
-- all months of a leap year and of another year.
use Rattle.texts.proofs.Names.{◌≡◌, refl, sym, subst, ⊎_elim, ◌∙◌, Bool, true, false, ◌&&◌, cond, List, [], ◌∷◌, foldr, ℕ, zero, suc, ◌+◌, ◌-◌, ◌≤◌, suc-le-suc, arith, T, eqb, ltb, eqb→eq, get_or, take}
use Rattle.texts.proofs.Names.{lt-ltb, le-ltb, leap, days_before_month}
use Rattle.texts.proofs.Below.{below, at}
use Rattle.texts.proofs.Months.{model, like-model}
use Rattle.texts.proofs.dates.days_before_month.Goals as goal

-- The entries from a month on: the days before it in a year that is not a leap year.
abbrev from : ℕ → ℕ → List ℕ
from month zero = []
from month (suc n) = days_before_month (model false) month ∷ from (suc month) n

abbrev entry : ℕ → ℕ
entry month = get_or (from 1 12) (month - 1) 0

-- A leap year has one more from March on.
abbrev given : Bool → Bool → ℕ → ℕ
given long past month = entry month + cond (long && past) 1 0

abbrev right : Bool → ℕ → Bool
right long month = eqb (given long (ltb 2 month) month) (days_before_month (model long) month)

all_right : (long : Bool) → T (below (right long) 13)
all_right true = tt
all_right false = tt

tested : (month : ℕ) (long : Bool) → month ≤ 12 → given long (ltb 2 month) month ≡ days_before_month (model long) month
tested month long h = eqb→eq _ _ (at (right long) 13 (all_right long) month (suc-le-suc h))

found : (year month : ℕ) (long past : Bool) → leap year ≡ long → ltb 2 month ≡ past → month ≤ 12 → given long past month ≡ days_before_month year month
found year month long past e f h =
    subst (λ (l : List ℕ). given long past month ≡ foldr ◌+◌ 0 (take (month - 1) l)) (sym (like-model year long e))
    (subst (λ (p : Bool). given long p month ≡ days_before_month (model long) month) f (tested month long h))

pub returns-then-month-gt2 : goal.returns-then-month-gt2
returns-then-month-gt2 c year e = rw c.from-days.ensures (found year _ true true (e ∙ c.if-long.true) (lt-ltb 2 _ c.if-month-gt2.true) c.requires.1)

pub returns-else-long : goal.returns-else-long
returns-else-long c year e =
    ⊎_elim (λ s. omega (arith, c.from-days.ensures, found year _ true false (e ∙ s.0) (le-ltb 2 _ s.1) c.requires.1))
    (λ s. omega (arith, c.from-days.ensures, found year _ false _ (e ∙ s) refl c.requires.1)) c.else-long.either
