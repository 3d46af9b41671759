-- Laws of text and code, and of the calendar.
use Rattle.promises.proofs.Names.{◌≡◌, refl, Bool, true, false, cond, ℕ, Date, leap, date_of, days_of_year, counted, real-date, text-back, code-back, TextAndCode, Day, Calendar, LeapYears}
use Rattle.texts.proofs.Calendar.{Real}

pub text-and-code : TextAndCode
text-and-code field code text = (text-back field code text, code-back field code text)

real : {d : Date} → Day d → Real d
real h = record { since = h.since; month-least = h.january; month-most = h.december; day-least = h.first; day-most = h.last }

day : {d : Date} → Real d → Day d
day h = record { since = h.since; january = h.month-least; december = h.month-most; first = h.day-least; last = h.day-most }

pub calendar : Calendar
unfolding date_of
calendar = record {
  days = λ code. day (counted code).0;
  after = λ code. refl;
  all = λ d h. real-date d (real h);
  once = λ code. (counted code).1;
}

pub leap-years : LeapYears
leap-years = record { days = λ year. days year (leap year) refl; fourth = refl; other = refl; hundredth = refl; four_hundredth = refl }
  where
    days : (year : ℕ) (b : Bool) → leap year ≡ b → days_of_year year ≡ cond b 366 365
    days year true e = rw e
    days year false e = rw e
