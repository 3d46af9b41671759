-- No template's date is after field 18.
use Rattle.listing.proofs.Names.{◌+◌, arith, eq-eqb, ne_eqb}
use Rattle.listing.proofs.ShownLaws.{date-most}
use Rattle.listing.proofs.values.text_field.Goals as goal

pub returns-then-field-eq3 : goal.returns-then-field-eq3
returns-then-field-eq3 c = rw (eq-eqb c.args.field 3 c.if-field-eq3.true)

pub returns-then-field-date : goal.returns-then-field-date
returns-then-field-date c = rw (ne_eqb c.args.field 3 c.if-field-eq3.false, ← c.date_field-date.ensures, eq-eqb c.args.field c.date_field-date.result c.if-field-date.true)

pub overflow_add-date : goal.overflow_add-date
overflow_add-date c = record { fits = omega (arith, c.date_field-date.ensures, date-most c.args.template) }

pub returns-then-field-date-2 : goal.returns-then-field-date-2
returns-then-field-date-2 c = rw (ne_eqb c.args.field 3 c.if-field-eq3.false, ← c.date_field-date.ensures, ne_eqb c.args.field c.date_field-date.result c.if-field-date.false, eq-eqb c.args.field (c.date_field-date.result + 1) c.if-field-date-2.true)

pub returns : goal.returns
returns c = rw (ne_eqb c.args.field 3 c.if-field-eq3.false, ← c.date_field-date.ensures, ne_eqb c.args.field c.date_field-date.result c.if-field-date.false, ne_eqb c.args.field (c.date_field-date.result + 1) c.if-field-date-2.false)
