-- The year and the month that the search finds make a real date with that many days before it.
use Rattle.texts.proofs.Names.{sym, arith}
use Rattle.texts.proofs.Finding.{rest-of-year, found}
use Rattle.texts.proofs.dates.date_of.Goals as goal

pub month_of-month-requires : goal.month_of-month-requires
month_of-month-requires c = rest-of-year _ _ _ c.year_of-year.ensures.0 c.days_before_year.ensures (omega arith) c.year_of-year.ensures.3

pub returns : goal.returns
returns c = found _ _ _ _ _ c.days_before_year.ensures (c.days_before_month.ensures c.year_of-year.result (sym c.leap.ensures)) c.year_of-year.ensures.0 (omega arith) c.month_of-month.ensures.0 c.month_of-month.ensures.1 c.month_of-month.ensures.2 c.month_of-month.ensures.3
