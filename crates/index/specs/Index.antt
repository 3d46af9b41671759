-- Document 02, Notes 2 and 7: an index beside the image, and a field fetched through it.
use Rattle.std.specs.Prelude.{◌||◌, cond, List, [], ◌∷◌, ◌++◌, map, ℕ, ◌+◌, ◌-◌, ◌*◌, eqb, ltb, length, get_or, drop}
use Rattle.refusal.specs.Outcome.{Outcome, Ok, Err, ◌>>◌, ◌>>=◌, refuse◌if◌}
use Rattle.refusal.specs.declared.Refusal.TheVariants.{OutsideTable, NoSuch, ShortIndex}
use Rattle.memory.specs.declared.Sizes.{Sizes}
use Rattle.memory.specs.Bits.{number, bytes_of, field_at}
use Rattle.memory.specs.Image.{image_sizes, sums, stream_bits, stream_number}
use Rattle.codes.specs.declared.Value.{Value}
use Rattle.codes.specs.declared.Row.{Row}
use Rattle.templates.specs.declared.Template.{Template}
use Rattle.templates.specs.declared.Template.TheVariants.{Bridge, Resistance}
use Rattle.codes.specs.Rules.{decode}
use Rattle.templates.specs.Lines.{Line, number_of, last_field, line_of}
use Rattle.layout.specs.Contents.{Found, FoundPair, Contents}
use Rattle.layout.specs.Image.{contents, pairs_in}
use Rattle.layout.specs.Places.{first_number, pair_bits}
use Rattle.index.specs.declared.Entry.{Entry}

-- ---- the index

-- An entry: a pair of "offset and length in stream bits".
abbrev pub entry : ℕ → ℕ → Entry
entry offset length = record { offset = offset; length = length }

abbrev pub field_entry : Found → Entry
field_entry x = entry x.at x.row.width

-- "then one pair of length 37 for each correction point"
abbrev pub pair_entry : FoundPair → Entry
pair_entry p = entry p.point.at pair_bits

-- The template's fields come first, from 1 to its own last number, then the points.
abbrev pub entries : Contents → List Entry
entries c = map field_entry c.fields ++ map pair_entry (pairs_in c.calibration)

-- "16 bits each, low byte first"
abbrev pub entry_bytes : List Entry → List ℕ
entry_bytes [] = []
entry_bytes (e ∷ es) = bytes_of 2 e.offset ++ bytes_of 2 e.length ++ entry_bytes es

-- The lent buffer after the call: "bytes beyond them stay". Order: check, 18.
unfoldable pub index : ℕ → List ℕ → List ℕ → Outcome (List ℕ)
index kind image buffer = do
  c ← contents kind image
  let bytes = entry_bytes (entries c)
  refuse ShortIndex (length bytes) if ltb (length buffer) (length bytes)
  Ok (bytes ++ drop (length bytes) buffer)

-- ---- a fetch

-- Note 7: "a fetch takes any first template but 32 as 33".
abbrev pub taken_as : ℕ → Template
taken_as number = cond (eqb number (number_of Resistance)) Resistance Bridge

-- The template, by the eight bits of the first template's number, whatever
-- the selector before them is. A fetch does not parse the stream.
unfoldable pub template_at : ℕ → Template
template_at stream = taken_as (field_at stream first_number 8)

-- Entry i of an index, counted from 0.
abbrev pub entry_at : List ℕ → ℕ → Entry
entry_at index i =
    entry
    (number (get_or index (4 * i) 0 ∷ get_or index (4 * i + 1) 0 ∷ []))
    (number (get_or index (4 * i + 2) 0 ∷ get_or index (4 * i + 3) 0 ∷ []))

-- The first row that is as long as an entry; 5 with the offset if there is none.
abbrev pub of_length : Entry → List Row → Outcome Row
of_length e [] = Err (OutsideTable e.offset)
of_length e (row ∷ rows) = cond (eqb row.width e.length) (Ok row) (of_length e rows)

-- The codes of a field that sets widths, which has two bits.
abbrev pub choices : List ℕ
choices = 0 ∷ 1 ∷ 2 ∷ 3 ∷ []

-- "field 10 or 11 is understood by its pair's length of 11, 19 or 32"; in
-- template 32 the lengths are 7, 10, 16 and 32. Every other field has one length.
abbrev pub row_of_length : Line → Entry → Outcome Row
row_of_length line e = of_length e (map line.row_at choices)

-- The field's bits, as a check judges them: 5 or 6 at the
-- offset. Before that 5 if the entry ends past the stream.
unfoldable pub bits_at : Sizes → List ℕ → Row → Entry → Outcome Value
bits_at z image row e = do
  refuse OutsideTable e.offset if ltb (stream_bits z) (e.offset + e.length)
  decode row e.offset (field_at (stream_number z image) e.offset e.length)

-- Order: 8, then the index: 18 if it can't hold an entry for
-- each field, and 5 for the field's own entry; then its bits.
unfoldable pub fetch_in : Sizes → List ℕ → List ℕ → ℕ → Outcome Value
fetch_in z image index f =
    let template = template_at (stream_number z image) in do
      refuse NoSuch f if eqb f 0 || ltb (last_field template) f
      refuse ShortIndex (4 * last_field template) if ltb (length index) (4 * last_field template)
      row ← row_of_length (line_of template f) (entry_at index (f - 1))
      bits_at z image row (entry_at index (f - 1))

-- Order: 1, 17, 2, 8, the index, the field's bits.
unfoldable pub fetch : ℕ → List ℕ → List ℕ → ℕ → Outcome Value
fetch kind image index f = do
  z ← image_sizes kind (length image)
  sums z image
  fetch_in z image index f
