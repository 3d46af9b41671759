use Rattle.dartelm.proofs.Names.{eq-eqb, ne_eqb}
use Rattle.dartelm.proofs.values.template_of.Goals as goal

pub returns-then-is_resistance-eq0 : goal.returns-then-is_resistance-eq0
returns-then-is_resistance-eq0 c = rw (eq-eqb _ _ c.if-is_resistance-eq0.true)

pub returns : goal.returns
returns c = rw (ne_eqb _ _ c.if-is_resistance-eq0.false)
