use Rattle.listing.proofs.Names.{ap, field, point, segment, term, character}
use Rattle.listing.proofs.parts.item_of.Goals as goal

pub returns-in-Fields : goal.returns-in-Fields
returns-in-Fields c = rw c.in-Fields.is (ap field c.read_field.ensures)

pub returns-in-Points : goal.returns-in-Points
returns-in-Points c = rw c.in-Points.is (ap point c.read_pair.ensures)

pub returns-in-Segments : goal.returns-in-Segments
returns-in-Segments c = rw c.in-Segments.is (ap segment c.read_segment.ensures)

pub returns-in-Terms : goal.returns-in-Terms
returns-in-Terms c = rw c.in-Terms.is (ap term c.read_term.ensures)

pub returns-in-Characters : goal.returns-in-Characters
returns-in-Characters c = rw c.in-Characters.is (ap character c.read_character.ensures)
