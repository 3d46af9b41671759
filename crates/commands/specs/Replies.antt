-- docs/CONSOLE.md: the answer to a line, from its words. Words are counted from 0, the command. A line
-- that is no such command has no answer. A room is how many bytes or figures a word may spell.
use Rattle.std.specs.Prelude.{List, map, ℕ, take}
use Rattle.std.specs.Prelude.{Option, None, Some}
use Rattle.refusal.specs.Outcome.{Outcome}
use Rattle.refusal.specs.Written.{written_said}
use Rattle.codes.specs.declared.Value.{Value}
use Rattle.texts.specs.declared.Text.{Text}
use Rattle.texts.specs.Text.{text_of, text_said, code_of}
use Rattle.templates.specs.declared.Pair.{Pair}
use Rattle.templates.specs.declared.Segment.{Segment}
use Rattle.templates.specs.declared.Term.{Term}
use Rattle.memory.specs.Image.{page_bytes}
use Rattle.sheet.specs.declared.Summary.{Summary}
use Rattle.sheet.specs.Check.{check, read_field, read_pair, read_segment, read_term, read_character}
use Rattle.writing.specs.declared.rows.Row.{Row}
use Rattle.writing.specs.Steps.{next_row}
use Rattle.writing.specs.Answers.{answered}
use Rattle.index.specs.Index.{index, fetch}
use Rattle.change.specs.declared.Proposal.{Proposal}
use Rattle.change.specs.Change.{change, propose, commit}
use Rattle.distance.specs.declared.CertificateBound.{CertificateBound}
use Rattle.distance.specs.Distance.{distance}
use Rattle.conformity.specs.Conformity.{conformity}
use Rattle.reading.specs.declared.Reading.{Reading}
use Rattle.reading.specs.Reading.{take_reading}
use Rattle.recordings.specs.declared.Compared.{Compared}
use Rattle.recordings.specs.Recordings.{compare}
use Rattle.console_words.specs.Words.{word_at}
use Rattle.console_words.specs.Figures.{number, figure, figures}
use Rattle.console_words.specs.Hexadecimal.{bytes, spelt}
use Rattle.commands.specs.declared.arguments.Chip.{Chip}
use Rattle.commands.specs.declared.arguments.ChipNumber.{ChipNumber}
use Rattle.commands.specs.declared.arguments.WrittenFront.{WrittenFront}
use Rattle.commands.specs.Arguments.{edit, exchange}
use Rattle.commands.specs.Dashes.{dash}
use Rattle.commands.specs.Kinds.{kind_of}
use Rattle.commands.specs.Lists.{◌>>=◌, within}

-- ---- KIND IMAGE, words 1 and 2

pub record ChipImage : Type 0 where
  pub kind : ℕ
  pub image : List ℕ

unfoldable pub chip_image : ℕ → List ℕ → Option ChipImage
chip_image room line = do
  kind ← number (word_at 1 line)
  image ← within room (bytes (word_at 2 line))
  Some (record { kind = kind_of kind; image = image })

abbrev pub chip_image_said : Option Chip → List ℕ → Option ChipImage
chip_image_said (Some chip) room = Some (record { kind = chip.kind; image = take chip.length room })
chip_image_said None room = None

-- ---- KIND IMAGE and a page, a field or an index, words 1 to 3

pub record ImageNumber : Type 0 where
  pub chip : ChipImage
  pub number : ℕ

abbrev pub number_request : ℕ → List ℕ → Option ImageNumber
number_request room line = do
  chip ← chip_image room line
  number ← number (word_at 3 line)
  Some (record { chip = chip; number = number })

abbrev pub number_request_said : Option ChipNumber → List ℕ → Option ImageNumber
number_request_said (Some r) room = Some (record { chip = record { kind = r.chip.kind; image = take r.chip.length room }; number = r.number })
number_request_said None room = None

-- A call at the kind, the image and the number.
abbrev pub number_reply : {A : Type 0} → (ℕ → List ℕ → ℕ → A) → ℕ → List ℕ → Option A
number_reply call room line = do
  r ← number_request room line
  Some (call r.chip.kind r.chip.image r.number)

-- ---- check KIND IMAGE

abbrev pub check_reply : ℕ → List ℕ → Option (Outcome Summary)
check_reply room line = do
  chip ← chip_image room line
  Some (check chip.kind chip.image)

-- ---- page KIND IMAGE PAGE: its bytes as digits, where a room holds so many

abbrev pub page_reply : ℕ → ℕ → List ℕ → Option (List ℕ)
page_reply room digitRoom line = do
  page ← number_reply page_bytes room line
  within digitRoom (map Some (spelt page))

-- ---- field KIND IMAGE FIELD

abbrev pub field_reply : ℕ → List ℕ → Option (Outcome Value)
field_reply = number_reply read_field

-- ---- pair, segment, term and char KIND IMAGE INDEX

abbrev pub pair_reply : ℕ → List ℕ → Option (Outcome Pair)
pair_reply = number_reply read_pair

abbrev pub segment_reply : ℕ → List ℕ → Option (Outcome Segment)
segment_reply = number_reply read_segment

abbrev pub term_reply : ℕ → List ℕ → Option (Outcome Term)
term_reply = number_reply read_term

abbrev pub character_reply : ℕ → List ℕ → Option (Outcome ℕ)
character_reply = number_reply read_character

-- ---- reading KIND IMAGE INPUT DASH

abbrev pub reading_reply : ℕ → List ℕ → Option (Outcome Reading)
reading_reply room line = do
  chip ← chip_image room line
  input ← figure (word_at 3 line)
  dash ← dash (word_at 4 line)
  Some (take_reading chip.kind chip.image input dash)

-- ---- compare KIND IMAGE SLOW FAST

abbrev pub compare_reply : ℕ → ℕ → ℕ → List ℕ → Option (Outcome Compared)
compare_reply room slowRoom fastRoom line = do
  chip ← chip_image room line
  slow ← within slowRoom (figures (word_at 3 line))
  fast ← within fastRoom (figures (word_at 4 line))
  Some (compare chip.kind chip.image slow fast)

-- ---- conform KIND IMAGE POINTS, and distance POINTS

abbrev pub conform_reply : ℕ → ℕ → List ℕ → Option (Outcome (Option CertificateBound))
conform_reply room pointRoom line = do
  chip ← chip_image room line
  points ← within pointRoom (figures (word_at 3 line))
  Some (conformity chip.kind chip.image points)

abbrev pub distance_reply : ℕ → List ℕ → Option (Outcome CertificateBound)
distance_reply room line = do
  points ← within room (figures (word_at 1 line))
  Some (distance points)

-- ---- next KIND PRESENT WANTED

abbrev pub next_reply : ℕ → ℕ → List ℕ → Option (Outcome (Option Row))
next_reply room wantedRoom line = do
  chip ← chip_image room line
  wanted ← within wantedRoom (bytes (word_at 3 line))
  Some (answered (next_row chip.kind chip.image wanted))

-- ---- index KIND IMAGE BUFFER, and fetch KIND IMAGE BUFFER FIELD

abbrev pub index_reply : ℕ → ℕ → List ℕ → Option (Outcome (List ℕ))
index_reply room bufferRoom line = do
  chip ← chip_image room line
  buffer ← within bufferRoom (bytes (word_at 3 line))
  Some (index chip.kind chip.image buffer)

-- The answer of a call that writes, with the bytes that it was lent, at the start of a room.
abbrev pub write_reply_said : Option WrittenFront → List ℕ → Option (Outcome (List ℕ))
write_reply_said (Some w) room = Some (written_said w.answer (take w.length room))
write_reply_said None room = None

abbrev pub fetch_reply : ℕ → ℕ → List ℕ → Option (Outcome Value)
fetch_reply room bufferRoom line = do
  chip ← chip_image room line
  index ← within bufferRoom (bytes (word_at 3 line))
  field ← number (word_at 4 line)
  Some (fetch chip.kind chip.image index field)

-- ---- change and propose KIND IMAGE FIELD VALUE LEVEL, and commit KIND IMAGE FIELD PRESENT NEW LEVEL

abbrev pub change_reply : ℕ → List ℕ → Option (Outcome (List ℕ))
change_reply room line = do
  edit ← edit line
  chip ← chip_image room line
  Some (change chip.kind chip.image edit.level edit.field edit.value)

abbrev pub propose_reply : ℕ → List ℕ → Option (Outcome Proposal)
propose_reply room line = do
  edit ← edit line
  chip ← chip_image room line
  Some (propose chip.kind chip.image edit.level edit.field edit.value)

abbrev pub commit_reply : ℕ → List ℕ → Option (Outcome (List ℕ))
commit_reply room line = do
  codes ← exchange line
  chip ← chip_image room line
  Some (commit chip.kind chip.image codes.level codes.field codes.present codes.new)

-- ---- text FIELD CODE, and code FIELD TEXT

abbrev pub text_reply : List ℕ → Option (Outcome Text)
text_reply line = do
  field ← number (word_at 1 line)
  code ← number (word_at 2 line)
  Some (text_said (text_of field code))

abbrev pub code_reply : ℕ → List ℕ → Option (Outcome ℕ)
code_reply room line = do
  field ← number (word_at 1 line)
  text ← within room (bytes (word_at 2 line))
  Some (code_of field text)
