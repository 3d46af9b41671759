use Rattle.listing.proofs.Names.{rules, eq-eqb, ne_eqb}
use Rattle.listing.proofs.values.form_of.Goals as goal

pub returns-then-requested-ne0 : goal.returns-then-requested-ne0
returns-then-requested-ne0 c = rw (c.in-Whole.is, ← c.text_field-requested.ensures, ne_eqb c.text_field-requested.result 0 c.if-requested-ne0.true) (search rules)

pub returns-then-field-eq12 : goal.returns-then-field-eq12
returns-then-field-eq12 c = rw (c.in-Whole.is, ← c.text_field-requested.ensures, eq-eqb c.text_field-requested.result 0 c.if-requested-ne0.false, eq-eqb c.args.field 12 c.if-field-eq12.true) (search rules)

pub returns-in-Single : goal.returns-in-Single
returns-in-Single c = rw c.in-Single.is

pub returns-else-field-eq12 : goal.returns-else-field-eq12
returns-else-field-eq12 c = rw (c.in-Whole.is, ← c.text_field-requested.ensures, eq-eqb c.text_field-requested.result 0 c.if-requested-ne0.false, ne_eqb c.args.field 12 c.if-field-eq12.false) (search rules)
