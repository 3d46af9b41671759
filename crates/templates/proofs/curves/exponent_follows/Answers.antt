use Rattle.templates.proofs.Names.{sym, ◌∙◌, tenths_of, tenths_before}
use Rattle.templates.proofs.CurveLaws.{tenths-order, follows-none}
use Rattle.templates.proofs.curves.exponent_follows.Goals as goal

pub returns-in-None : goal.returns-in-None
returns-in-None c = rw c.in-None.is (sym c.if-is_exponent.true ∙ c.is_exponent.ensures)

pub returns-in-Some : goal.returns-in-Some
returns-in-Some c = rw (c.in-Some.is, ← c.is_exponent.ensures, c.if-is_exponent.true) (tenths-order c.in-Some.last c.args.code)

pub returns : goal.returns
returns c = let a = c.args in sym (follows-none (tenths_before (a.before)) (tenths_of a.code) (sym c.is_exponent.ensures ∙ c.if-is_exponent.false))
