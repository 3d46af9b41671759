-- Document 01, "Layout": text and code are each other's inverse, and
-- dates are those of the Gregorian calendar from 1 January 1998 on.
use Rattle.std.specs.Prelude.{◌≡◌, true, false, cond, List, ◌↔◌, ℕ, suc, ◌+◌, ◌-◌, ◌≤◌}
use Rattle.refusal.specs.Outcome.{Ok}
use Rattle.texts.specs.Dates.{Date, leap, month_length, next, date_of, days_of_year, days_before_year, days_before_month}
use Rattle.texts.specs.Text.{text_of, code_of}

-- A text is that of a code exactly if the code is that of the text.
abbrev pub TextAndCode : Type 0
TextAndCode = (field code : ℕ) (text : List ℕ) → (text_of field code ≡ Ok text) ↔ (code_of field text ≡ Ok code)

-- ---- the calendar

-- A day of the calendar, from 1998 on.
pub record Day (d : Date) : Type 0 where
  pub since : 1998 ≤ d.year
  pub january : 1 ≤ d.month
  pub december : d.month ≤ 12
  pub first : 1 ≤ d.day
  pub last : d.day ≤ month_length d.year d.month

-- The days from 1 January 1998 to a date, by years and months.
abbrev pub days_before : Date → ℕ
days_before d = days_before_year d.year + (days_before_month d.year d.month + (d.day - 1))

-- Every code's date is a day of the calendar, and the next code's is the day after it.
-- Every day of the calendar is the date of the days before it, and of no other code.
pub record Calendar : Type 0 where
  pub days : (code : ℕ) → Day (date_of code)
  pub after : (code : ℕ) → date_of (suc code) ≡ next (date_of code)
  pub all : (d : Date) → Day d → date_of (days_before d) ≡ d
  pub once : (code : ℕ) → days_before (date_of code) ≡ code

-- A year has 365 days, a leap year 366; 2000 is a leap year, 2100 is not.
pub record LeapYears : Type 0 where
  pub days : (year : ℕ) → days_of_year year ≡ cond (leap year) 366 365
  pub fourth : leap 2024 ≡ true
  pub other : leap 2023 ≡ false
  pub hundredth : leap 2100 ≡ false
  pub four_hundredth : leap 2000 ≡ true
