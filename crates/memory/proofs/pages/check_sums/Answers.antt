use Rattle.memory.proofs.Names.{sym, ◌∙◌}
use Rattle.memory.proofs.pages.check_sums.Goals as goal

pub returns-then-all_blank : goal.returns-then-all_blank
returns-then-all_blank c = rw (sym c.all_blank.ensures ∙ c.if-all_blank.true)

pub returns : goal.returns
returns c = rw (sym c.all_blank.ensures ∙ c.if-all_blank.false) c.test_pages.ensures
