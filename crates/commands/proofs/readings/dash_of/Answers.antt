use Rattle.commands.proofs.Names.{sym, ◌∙◌}
use Rattle.commands.proofs.readings.dash_of.Goals as goal

pub returns-then-equal : goal.returns-then-equal
returns-then-equal c = rw (sym c.equal.ensures ∙ c.if-equal.true)

pub returns-then-equal-2 : goal.returns-then-equal-2
returns-then-equal-2 c = rw (sym c.equal.ensures ∙ c.if-equal.false, sym c.equal-2.ensures ∙ c.if-equal-2.true)

pub returns : goal.returns
returns c = rw (sym c.equal.ensures ∙ c.if-equal.false, sym c.equal-2.ensures ∙ c.if-equal-2.false)
