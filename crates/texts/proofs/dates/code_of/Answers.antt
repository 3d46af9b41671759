-- The text of a code reads as its date.
use Rattle.texts.proofs.Digits.{read}
use Rattle.texts.proofs.dates.code_of.Goals as goal

pub returns : goal.returns
returns c code le e = c.day_code.ensures code le (read _ code _ _ _ _ c.two_digits.ensures c.two_digits-2.ensures c.two_digits-month.ensures c.two_digits-day.ensures le e)
