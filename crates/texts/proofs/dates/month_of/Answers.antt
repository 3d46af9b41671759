use Rattle.texts.proofs.Names.{◌+◌, ◌<◌, ◌≤◌, arith, rules, tests, first_from_Range, days_before_month}
use Rattle.texts.proofs.Rising.{first_past}
use Rattle.texts.proofs.dates.month_of.Goals as goal

pub returns : goal.returns
returns c =
    let f = days_before_month c.args.year in
    rw c.unwrap_or.ensures (
    first_past f 1 c.args.day (omega arith) 12 c.find.result (omega arith) c.requires
    (first_from_Range _ _ _ c.find.result (λ m. c.args.day < f (m + 1)) (λ m. f (m + 1) ≤ c.args.day) c.find.ensures.ran (λ x q k. search (rules, tests)) (λ x q k. search (rules, tests)))
    )
