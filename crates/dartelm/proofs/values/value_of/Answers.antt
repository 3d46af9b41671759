use mir.Syntax.{w64}
use Rattle.dartelm.proofs.Names.{rules, eq-eqb, ne_eqb, ap, to_z-of_z, Whole}
use Rattle.dartelm.proofs.values.value_of.Goals as goal

pub returns-then-given-ne0 : goal.returns-then-given-ne0
returns-then-given-ne0 c = simp (ne_eqb _ _ c.if-given-ne0.true)

pub returns-then-given-ne0-2 : goal.returns-then-given-ne0-2
returns-then-given-ne0-2 c = simp (eq-eqb _ _ c.if-given-ne0.false, ne_eqb _ _ c.if-given-ne0-2.true)

pub returns : goal.returns
returns c = simp (eq-eqb _ _ c.if-given-ne0.false, eq-eqb _ _ c.if-given-ne0-2.false) (ap Whole (to_z-of_z {w = w64} (search rules)))
