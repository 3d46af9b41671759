-- Laws of the search for a date and for its code.
use Rattle.texts.proofs.Names.{◌≡◌, subst, ℕ, ◌+◌, ◌-◌, ◌<◌, ◌≤◌, add-one, arith, Date, month_length, date_of, days_of_year, days_before_year, days_before_month}
use Rattle.texts.proofs.Rising.{risen}
use Rattle.texts.proofs.Months.{month-range, month-suc, months-rise, year-suc, year-range, years-range}
use Rattle.texts.proofs.Calendar.{dated, Real, count, counted, real-date}

-- A year with few days before it is before 2178.
pub year-near : (year : ℕ) → days_before_year year < 65_536 → year < 2178
year-near year h = omega (arith, years-range (year - 1998))

-- The rest of a code after the year's first day is within the year.
pub rest-of-year : (code year before : ℕ) → 1998 ≤ year → before ≡ days_before_year year → before ≤ code → code < days_before_year (year + 1) → code - before < days_of_year year
rest-of-year code year before since e from until = omega (arith, year-suc year since, rw add-one at until)

-- A date found by year and month is the code's.
pub found : (code year month years months : ℕ) → years ≡ days_before_year year → months ≡ days_before_month year month → 1998 ≤ year → years ≤ code → 1 ≤ month → month ≤ 12
    → days_before_month year month ≤ code - years → code - years < days_before_month year (month + 1)
    → date_of code ≡ record { year = year; month = month; day = code - years - months + 1 }
found code year month years months ey em since from low high first-day last-day =
    let d = dated year month (code - years - months + 1) in
    let e : count d ≡ code = omega arith in
    let m : days_before_month year (month + 1) ≡ days_before_month year month + month_length year month = rw add-one (month-suc year month low) in
    let real : Real d = record { since = since; month-least = low; month-most = high; day-least = omega arith; day-most = omega arith } in
    subst (λ (n : ℕ). date_of n ≡ d) e (real-date d real)

-- The ranges of a code's date.
pub record Ranged (year month day code : ℕ) : Type 0 where
  pub since : 1998 ≤ year
  pub until : year ≤ 2177
  pub month-least : 1 ≤ month
  pub month-most : month ≤ 12
  pub day-least : 1 ≤ day
  pub day-most : day ≤ 31
  pub counted-so : days_before_year year + (days_before_month year month + (day - 1)) ≡ code

ranged-date : (d : Date) (code : ℕ) → code ≤ 65_535 → Real d → count d ≡ code → Ranged d.year d.month d.day code
ranged-date d code le real e =
    record {
      since = real.since;
      until = omega (arith, year-near d.year (omega arith));
      month-least = real.month-least;
      month-most = real.month-most;
      day-least = real.day-least;
      day-most = omega (arith, real.day-most, month-range d.year d.month real.month-most);
      counted-so = e;
    }

pub ranged : (code year month day : ℕ) → code ≤ 65_535 → date_of code ≡ record { year = year; month = month; day = day } → Ranged year month day code
ranged code year month day le e =
    subst (λ (d : Date). Ranged d.year d.month d.day code) e (ranged-date (date_of code) code le (counted code).0 (counted code).1)

-- No sum of days is near 2^64.
pub few : (year month : ℕ) → year ≤ 2177 → month ≤ 12 → days_before_year year + days_before_month year month < 70_000
few year month until high =
    omega (arith, years-range (year - 1998), risen (days_before_month year) (months-rise year) month 13 (omega arith), year-range year)
