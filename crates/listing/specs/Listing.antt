-- What `show` lists of an accepted image (docs/CONSOLE.md): of each item of a part what its read returns, in the order of their numbers.
use Rattle.std.specs.Prelude.{Bool, true, not, List, ℕ, ◌+◌, eqb}
use Rattle.refusal.specs.Outcome.{Outcome, Ok, Err}
use Rattle.refusal.specs.Rows.{row_number}
use Rattle.refusal.specs.declared.Refusal.TheVariants.{TooManyPoints}
use Rattle.codes.specs.declared.Value.{Value}
use Rattle.templates.specs.declared.Pair.{Pair}
use Rattle.templates.specs.declared.Segment.{Segment}
use Rattle.templates.specs.declared.Term.{Term}
use Rattle.templates.specs.Lines.{last_field}
use Rattle.sheet.specs.declared.Summary.{Summary}
use Rattle.sheet.specs.Check.{read_field, read_pair, read_segment, read_term, read_character}
use Rattle.reading.specs.declared.Reading.{Reading}
use Rattle.listing.specs.declared.parts.Part.{Part}
use Rattle.listing.specs.declared.parts.Part.TheVariants.{Fields, Points, Segments, Terms, Characters}
use Rattle.listing.specs.declared.parts.Numbers.{Numbers}
use Rattle.listing.specs.declared.parts.Item.{Item}
use Rattle.listing.specs.declared.parts.Item.TheVariants.{Field, Point, Segment as SegmentItem, Term as TermItem, Character}

abbrev pub below : ℕ → Numbers
below count = record { first = 0; end = count }

-- Fields are numbered from 1 up to the template's last, the others from 0, as many as the check counts.
abbrev pub numbers_of : Part → Summary → Numbers
numbers_of Fields s = record { first = 1; end = last_field s.template + 1 }
numbers_of Points s = below s.points
numbers_of Segments s = below s.segments
numbers_of Terms s = below s.terms
numbers_of Characters s = below s.characters

-- What is listed of an item.
pub data Listed : Type 0 where
  field : Outcome Value → Listed
  point : Outcome Pair → Listed
  segment : Outcome Segment → Listed
  term : Outcome Term → Listed
  character : Outcome ℕ → Listed

abbrev pub item_of : ℕ → List ℕ → Part → ℕ → Listed
item_of kind image Fields n = field (read_field kind image n)
item_of kind image Points n = point (read_pair kind image n)
item_of kind image Segments n = segment (read_segment kind image n)
item_of kind image Terms n = term (read_term kind image n)
item_of kind image Characters n = character (read_character kind image n)

abbrev pub item_said : Item → Listed
item_said (Field answer) = field (answer)
item_said (Point answer) = point (answer)
item_said (SegmentItem answer) = segment (answer)
item_said (TermItem answer) = term (answer)
item_said (Character answer) = character (answer)

-- Document 02, Note 10: the small dash takes a sheet unless it refuses it with 23, too many points.
abbrev pub taken : Outcome Reading → Bool
taken (Ok reading) = true
taken (Err r) = not (eqb (row_number r) (row_number (TooManyPoints 0)))
