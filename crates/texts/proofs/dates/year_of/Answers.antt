use Rattle.texts.proofs.Names.{◌+◌, ◌<◌, ◌≤◌, arith, rules, tests, first_from_Range, days_of_years, days_before_year}
use Rattle.texts.proofs.Rising.{first_past}
use Rattle.texts.proofs.Months.{years-range}
use Rattle.texts.proofs.dates.year_of.Goals as goal

pub returns : goal.returns
unfolding days_of_years
returns c =
    rw c.unwrap_or.ensures (
    first_past days_before_year 1998 c.args.code (omega arith) 2177 c.find.result (omega arith) (omega (arith, years-range 180))
    (first_from_Range _ _ _ c.find.result (λ y. c.args.code < days_before_year (y + 1)) (λ y. days_before_year (y + 1) ≤ c.args.code) c.find.ensures.ran (λ x q k. search (rules, tests)) (λ x q k. search (rules, tests)))
    )
