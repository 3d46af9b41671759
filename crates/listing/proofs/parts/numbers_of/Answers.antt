-- A template has at most 21 fields.
use Rattle.listing.proofs.Names.{arith, last-most}
use Rattle.listing.proofs.parts.numbers_of.Goals as goal

pub overflow_add-result : goal.overflow_add-result
overflow_add-result c = record { fits = omega (arith, c.last_field.ensures, last-most c.args.summary.template) }

pub returns-in-Fields : goal.returns-in-Fields
returns-in-Fields c = rw (c.in-Fields.is, c.last_field.ensures)

pub returns-in-Points : goal.returns-in-Points
returns-in-Points c = rw c.in-Points.is c.below.ensures

pub returns-in-Segments : goal.returns-in-Segments
returns-in-Segments c = rw c.in-Segments.is c.below-in-Segments.ensures

pub returns-in-Terms : goal.returns-in-Terms
returns-in-Terms c = rw c.in-Terms.is c.below-in-Terms.ensures

pub returns-in-Characters : goal.returns-in-Characters
returns-in-Characters c = rw c.in-Characters.is c.below-in-Characters.ensures
