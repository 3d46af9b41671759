use Rattle.commands.proofs.Names.{sym, ◌∙◌}
use Rattle.commands.proofs.choosing.of_two.Goals as goal

pub returns-then-equal : goal.returns-then-equal
returns-then-equal c = rw (sym c.equal.ensures ∙ c.if-equal.true)

pub returns : goal.returns
returns c = rw (sym c.equal.ensures ∙ c.if-equal.false)
