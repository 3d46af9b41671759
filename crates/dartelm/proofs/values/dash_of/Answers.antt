use Rattle.dartelm.proofs.Names.{eq-eqb, ne_eqb}
use Rattle.dartelm.proofs.values.dash_of.Goals as goal

pub returns-then-given-eq0 : goal.returns-then-given-eq0
returns-then-given-eq0 c = rw (eq-eqb _ _ c.if-given-eq0.true)

pub returns : goal.returns
returns c = rw (ne_eqb _ _ c.if-given-eq0.false)
