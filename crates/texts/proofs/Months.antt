-- Laws of months and years, for any year.
use Rattle.texts.proofs.Names.{◌≡◌, refl, sym, ap, subst, ◌∙◌, Bool, true, false, ◌&&◌, cond, List, [], ◌∷◌, foldr, ℕ, zero, suc, ◌+◌, ◌-◌, ◌*◌, ◌≤◌, zero-le, suc-le-suc, arith, T, leb, leb→le, get_or, take, leap}
use Rattle.texts.proofs.Names.{month_lengths, month_length, days_of_year, days_of_years, days_before_year, days_before_month}
use Rattle.texts.proofs.Below.{below, at, first, second}
use Rattle.texts.proofs.Rising.{risen}

-- ---- leap years and others

-- One leap year, and one other year.
abbrev pub model : Bool → ℕ
model true = 2000
model false = 1999

pub like-model : (year : ℕ) (long : Bool) → leap year ≡ long → month_lengths year ≡ month_lengths (model long)
like-model year true e = rw e
like-model year false e = rw e

pub year-days : (year : ℕ) → days_of_year year ≡ 365 + cond (leap year) 1 0
year-days year = by (leap year) refl
  where
    by : (long : Bool) → leap year ≡ long → days_of_year year ≡ 365 + cond long 1 0
    by true e = ap (foldr ◌+◌ 0) (like-model year true e)
    by false e = ap (foldr ◌+◌ 0) (like-model year false e)

pub year-range : (year : ℕ) → (365 ≤ days_of_year year) × (days_of_year year ≤ 366)
year-range year = by (leap year) (year-days year)
  where
    by : (long : Bool) → days_of_year year ≡ 365 + cond long 1 0 → (365 ≤ days_of_year year) × (days_of_year year ≤ 366)
    by true e = omega arith
    by false e = omega arith

-- A month has 1 to 31 days.
abbrev sized : Bool → ℕ → Bool
sized long month = leb 1 (month_length (model long) month) && leb (month_length (model long) month) 31

all-sized : (long : Bool) → T (below (sized long) 13)
all-sized true = tt
all-sized false = tt

pub month-range : (year month : ℕ) → month ≤ 12 → (1 ≤ month_length year month) × (month_length year month ≤ 31)
month-range year month h =
    let long = leap year in
    let days = month_length (model long) month in
    let t = at (sized long) 13 (all-sized long) month (suc-le-suc h) in
    subst (λ (l : List ℕ). (1 ≤ get_or l (month - 1) 0) × (get_or l (month - 1) 0 ≤ 31)) (sym (like-model year long refl))
    (leb→le 1 days (first (leb 1 days) (leb days 31) t), leb→le days 31 (second (leb 1 days) (leb days 31) t))

-- ---- from month to month

months-suc : (l : List ℕ) (k : ℕ) → foldr ◌+◌ 0 (take (suc k) l) ≡ foldr ◌+◌ 0 (take k l) + get_or l k 0
months-suc [] zero = refl
months-suc [] (suc k) = refl
months-suc (x ∷ l) zero = omega arith
months-suc (x ∷ l) (suc k) = omega (arith, months-suc l k)

pub month-suc : (year month : ℕ) → 1 ≤ month → days_before_month year (suc month) ≡ days_before_month year month + month_length year month
month-suc year month h =
    let e : suc month - 1 ≡ suc (month - 1) = omega arith in
    ap (λ (m : ℕ). foldr ◌+◌ 0 (take m (month_lengths year))) e ∙ months-suc (month_lengths year) (month - 1)

pub months-rise : (year month : ℕ) → days_before_month year month ≤ days_before_month year (suc month)
months-rise year zero = zero-le
months-rise year (suc month) = omega (arith, month-suc year (suc month) (suc-le-suc zero-le))

-- ---- from year to year

pub year-suc : (year : ℕ) → 1998 ≤ year → days_before_year (suc year) ≡ days_before_year year + days_of_year year
unfolding days_of_years
year-suc year h =
    let e : suc year - 1998 ≡ suc (year - 1998) = omega arith in
    let s : 1998 + (year - 1998) ≡ year = omega arith in
    ap days_of_years e ∙ ap (λ (y : ℕ). days_before_year year + days_of_year y) s

pub years-rise : (year : ℕ) → days_before_year year ≤ days_before_year (suc year)
unfolding days_of_years
years-rise year = risen days_of_years (λ n. omega arith) (year - 1998) (suc year - 1998) (omega arith)

pub years-range : (n : ℕ) → (365 * n ≤ days_of_years n) × (days_of_years n ≤ 366 * n)
unfolding days_of_years
years-range zero = omega arith
years-range (suc n) = omega (arith, years-range n, year-range (1998 + n))
