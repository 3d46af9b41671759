-- Laws of the calendar: a real date is the date of the days before it, counted by years and months.
use Rattle.texts.proofs.Names.{◌≡◌, refl, ap, subst, ◌∙◌, Bool, true, false, ℕ, zero, suc, ◌+◌, ◌-◌, ◌<◌, ◌≤◌, suc-le-suc, arith, T, leb, ltb, leb→le, ltb-true, ltb-false, Date, month_length, next, date_of}
use Rattle.texts.proofs.Names.{days_of_years, days_before_year, days_before_month}
use Rattle.texts.proofs.Rising.{risen, one_place}
use Rattle.texts.proofs.Months.{month-range, month-suc, months-rise, year-suc, years-rise}

abbrev pub dated : ℕ → ℕ → ℕ → Date
dated year month day = record { year = year; month = month; day = day }

-- A day that the calendar has, from 1998 on.
pub record Real (d : Date) : Type 0 where
  pub since : 1998 ≤ d.year
  pub month-least : 1 ≤ d.month
  pub month-most : d.month ≤ 12
  pub day-least : 1 ≤ d.day
  pub day-most : d.day ≤ month_length d.year d.month

-- The days from 1 January 1998 to a date, by years and months.
abbrev pub count : Date → ℕ
count d = days_before_year d.year + (days_before_month d.year d.month + (d.day - 1))

-- ---- day by day

-- The day after a real date is a real date, and has one more day before it.
next-day : (d : Date) → Real d → (a b : Bool) → ltb d.day (month_length d.year d.month) ≡ a → ltb d.month 12 ≡ b → Real (next d) × (count (next d) ≡ suc (count d))
unfolding next
next-day d real true b ea eb =
    rw ea (
      record { since = real.since; month-least = real.month-least; month-most = real.month-most; day-least = omega arith; day-most = ltb-true _ _ ea },
      omega (arith, real),
    )
next-day d real false true ea eb =
    let m : suc d.month ≤ 12 = ltb-true _ _ eb in
    rw (ea, eb) (
      record { since = real.since; month-least = omega arith; month-most = m; day-least = omega arith; day-most = (month-range d.year (suc d.month) m).0 },
      omega (arith, real, ltb-false d.day (month_length d.year d.month) ea, month-suc d.year d.month real.month-least),
    )
next-day d real false false ea eb =
    let e : d.month ≡ 12 = omega (arith, real, ltb-false d.month 12 eb) in
    rw (ea, eb) (
      record { since = omega (arith, real); month-least = omega arith; month-most = omega arith; day-least = omega arith; day-most = omega arith },
      omega (arith, real, ltb-false d.day (month_length d.year d.month) ea, year-suc d.year real.since, month-suc d.year d.month real.month-least, ap (λ (m : ℕ). days_before_month d.year (suc m)) e),
    )

-- The date of a code is real, and the days before it are the code.
pub counted : (n : ℕ) → Real (date_of n) × (count (date_of n) ≡ n)
unfolding date_of days_of_years
counted zero = (record { since = omega arith; month-least = omega arith; month-most = omega arith; day-least = omega arith; day-most = omega arith }, refl)
counted (suc n) =
    let p = next-day (date_of n) (counted n).0 _ _ refl refl in
    (p.0, p.1 ∙ ap suc (counted n).1)

-- ---- one code a date

within-month : (d : Date) → Real d → days_before_month d.year d.month + (d.day - 1) < days_before_month d.year (suc d.month)
within-month d real = omega (arith, real, month-suc d.year d.month real.month-least)

within-year : (d : Date) → Real d → count d < days_before_year (suc d.year)
within-year d real =
    omega (
      arith,
      within-month d real,
      risen (days_before_month d.year) (months-rise d.year) (suc d.month) 13 (suc-le-suc real.month-most),
      year-suc d.year real.since,
    )

same-year : (d e : Date) → Real d → Real e → count d ≡ count e → d.year ≡ e.year
same-year d e rd re h =
    one_place days_before_year years-rise d.year e.year (count d) (omega arith) (within-year d rd) (omega arith) (omega (arith, within-year e re))

same-month : (year m i k j : ℕ) → Real (dated year m i) → Real (dated year k j) → days_before_month year m + (i - 1) ≡ days_before_month year k + (j - 1) → m ≡ k
same-month year m i k j rd re h =
    one_place (days_before_month year) (months-rise year) m k (days_before_month year m + (i - 1)) (omega arith) (within-month _ rd) (omega arith) (omega (arith, h, within-month _ re))

same-day : (year m i k j : ℕ) → Real (dated year m i) → Real (dated year k j) → count (dated year m i) ≡ count (dated year k j) → dated year m i ≡ dated year k j
same-day year m i k j rd re h =
    let p : m ≡ k = same-month year m i k j rd re (omega arith) in
    let q : i ≡ j = omega (arith, ap (days_before_month year) p, rd.day-least, re.day-least) in
    rw (p, q)

one-date : (d e : Date) → Real d → Real e → count d ≡ count e → d ≡ e
one-date d e rd re h =
    subst (λ (y : ℕ). Real (dated y e.month e.day) → count d ≡ count (dated y e.month e.day) → d ≡ dated y e.month e.day)
    (same-year d e rd re h) (same-day d.year d.month d.day e.month e.day rd) re h

-- A real date is the date of the days before it.
pub real-date : (d : Date) → Real d → date_of (count d) ≡ d
real-date d real = one-date (date_of (count d)) d (counted (count d)).0 real (counted (count d)).1

-- ---- dates of document 01

-- A date given by its year, month and day.
named : (year month day : ℕ) → T (leb 1998 year) → T (leb 1 month) → T (leb month 12) → T (leb 1 day) → T (leb day (month_length year month))
    → date_of (count (dated year month day)) ≡ dated year month day
named year month day since low high first-day last-day =
    real-date (dated year month day)
    (record { since = leb→le 1998 year since; month-least = leb→le 1 month low; month-most = leb→le month 12 high; day-least = leb→le 1 day first-day; day-most = leb→le day (month_length year month) last-day })

pub date-789 : date_of 789 ≡ record { year = 2000; month = 2; day = 29 }
unfolding days_of_years
date-789 = named 2000 2 29 tt tt tt tt tt

pub date-7306 : date_of 7_306 ≡ record { year = 2018; month = 1; day = 2 }
unfolding days_of_years
date-7306 = named 2018 1 2 tt tt tt tt tt

pub date-37314 : date_of 37_314 ≡ record { year = 2100; month = 3; day = 1 }
unfolding days_of_years
date-37314 = named 2100 3 1 tt tt tt tt tt

pub date-65534 : date_of 65_534 ≡ record { year = 2177; month = 6; day = 5 }
unfolding days_of_years
date-65534 = named 2177 6 5 tt tt tt tt tt
