-- Laws of the days before a year: 365 a year and a count of leap years, for any year.
use Rattle.texts.proofs.Names.{◌≡◌, refl, Bool, true, false, not, ◌&&◌, ◌||◌, cond, ℕ, zero, suc, ◌+◌, ◌-◌, ◌*◌, ◌/◌, ◌%◌, ◌<◌, ◌≤◌, mod-lt, suc-mul, div-add-mod', le-div_iff_mul-le, div-lt_iff_lt-mul, arith, eqb}
use Rattle.texts.proofs.Names.{lit<, eqb-true, eqb-false, days_of_years, days_before_year}
use Rattle.texts.proofs.Months.{year-days}

-- ---- a quotient grows by one at each multiple of the divisor

quotient : (m p q : ℕ) → 0 < m → q * m ≤ p → p < suc q * m → p / m ≡ q
quotient m p q h low high = omega (arith, (le-div_iff_mul-le h).1 low, (div-lt_iff_lt-mul h).1 high)

before-multiple : (m p q : ℕ) → 0 < m → suc p ≡ q * m → q ≡ p / m + 1
before-multiple m p zero h e = absurd (omega arith)
before-multiple m p (suc q) h e = omega (arith, quotient m p q h (omega (arith, suc-mul q m)) (omega arith))

multiples : (m p : ℕ) → 0 < m → (b : Bool) → eqb (suc p % m) 0 ≡ b → suc p / m ≡ p / m + cond b 1 0
multiples m p h true e = before-multiple m p (suc p / m) h (omega (arith, div-add-mod' (suc p) m, eqb-true (suc p % m) 0 e))
multiples m p h false e =
    let split = div-add-mod' (suc p) m in
    let some = eqb-false (suc p % m) 0 e in
    omega (
      arith,
      quotient m p (suc p / m) h (omega (arith, split, some)) (omega (arith, split, mod-lt (suc p) h, suc-mul (suc p / m) m)),
    )

-- ---- leap years

-- A year has more than 365 days exactly if the count of leap years grows.
leap-day : (year : ℕ) (a b c : Bool) → eqb (year % 4) 0 ≡ a → eqb (year % 100) 0 ≡ b → eqb (year % 400) 0 ≡ c
    → 365 + cond (a && (not b || c)) 1 0 + cond b 1 0 ≡ 365 + (cond a 1 0 + cond c 1 0)
leap-day year true true true ea eb ec = refl
leap-day year true true false ea eb ec = refl
leap-day year true false true ea eb ec = absurd (omega (arith, eqb-false (year % 100) 0 eb, eqb-true (year % 400) 0 ec))
leap-day year true false false ea eb ec = refl
leap-day year false true c ea eb ec = absurd (omega (arith, eqb-false (year % 4) 0 ea, eqb-true (year % 100) 0 eb))
leap-day year false false true ea eb ec = absurd (omega (arith, eqb-false (year % 4) 0 ea, eqb-true (year % 400) 0 ec))
leap-day year false false false ea eb ec = refl

one_more : (d t n x y z u v w : ℕ) → t + y ≡ 365 + (x + z) → d + (v + 484) ≡ 365 * n + (u + w) → d + t + (v + y + 484) ≡ 365 * suc n + (u + x + (w + z))
one_more d t n x y z u v w h ih = omega arith

-- The leap years up to 1997 are 484.
years-formula : (n : ℕ) → days_of_years n + ((1997 + n) / 100 + 484) ≡ 365 * n + ((1997 + n) / 4 + (1997 + n) / 400)
unfolding days_of_years
years-formula zero = refl
years-formula (suc n) =
    let e : 1997 + suc n ≡ suc (1997 + n) = omega arith in
    let s : 1998 + n ≡ suc (1997 + n) = omega arith in
    rw (year-days (1998 + n), e, s, multiples 4 (1997 + n) (lit< tt) _ refl, multiples 100 (1997 + n) (lit< tt) _ refl, multiples 400 (1997 + n) (lit< tt) _ refl)
    (one_more _ _ n _ _ _ _ _ _ (leap-day (suc (1997 + n)) _ _ _ refl refl refl) (years-formula n))

pub year_formula : (year : ℕ) → 1998 ≤ year → days_before_year year + ((year - 1) / 100 + 484) ≡ 365 * (year - 1998) + ((year - 1) / 4 + (year - 1) / 400)
year_formula year h =
    let e : 1997 + (year - 1998) ≡ year - 1 = omega arith in
    rw e at (years-formula (year - 1998))
