-- A code's date passes each test, and the days before it are the code.
use Rattle.texts.proofs.Names.{sym, arith}
use Rattle.texts.proofs.Finding.{ranged, few}
use Rattle.texts.proofs.dates.day_code.Goals as goal

pub returns-then-year-lt1998 : goal.returns-then-year-lt1998
returns-then-year-lt1998 c code le e = absurd (omega (arith, c.then-year-lt1998.either, ranged code _ _ _ le e))

pub overflow_add-result : goal.overflow_add-result
overflow_add-result c = omega (arith, c.days_before_month.ensures c.args.year (sym c.leap.ensures), few c.args.year c.args.month c.if-year-gt-LAST_YEAR.false c.if-month-gt12.false)

pub overflow_add-result-2 : goal.overflow_add-result-2
overflow_add-result-2 c = omega (arith, c.days_before_month.ensures c.args.year (sym c.leap.ensures), few c.args.year c.args.month c.if-year-gt-LAST_YEAR.false c.if-month-gt12.false)

pub returns : goal.returns
returns c code le e = omega (arith, c.days_before_month.ensures c.args.year (sym c.leap.ensures), ranged code _ _ _ le e)
