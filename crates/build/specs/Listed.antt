-- Only inner contracts need this: the one list of codes that a build
-- fills before it writes, and the image of what is on it.
use Rattle.std.specs.Prelude.{◌≡◌, Bool, List, ◌++◌, map, ℕ, ◌+◌, ◌/◌, ◌%◌, ◌^◌, ◌≤◌, ◌<◌, ltb, length, get_or, take, set}
use Rattle.std.proofs.Math.Seq.{slice}
use Rattle.refusal.specs.Outcome.{Outcome, Ok, Err, ◌>>◌, ◌>>=◌, refuse◌if◌}
use Rattle.refusal.specs.declared.Refusal.TheVariants.{TooLong}
use Rattle.memory.specs.declared.Sizes.{Sizes}
use Rattle.memory.specs.Image.{stream_bits, image_of}
use Rattle.memory.specs.Pieces.{Piece, piece, pack, needed}
use Rattle.templates.specs.declared.Template.{Template}
use Rattle.templates.specs.Lines.{basic, number_of}
use Rattle.layout.specs.Pieces.{block_pieces}
use Rattle.build.specs.declared.list.CodedField.{CodedField}
use Rattle.build.specs.declared.list.Listed.{Listed}
use Rattle.build.specs.Build.{ending_pieces, as_far_as_64_bits}

-- ---- a code

-- A code that fits a field of 1 to 49 bits.
pub record Fitting (width code : ℕ) : Type 0 where
  pub some : 1 ≤ width
  pub most : width ≤ 49
  pub fits : code < 2 ^ width

-- n codes that fit their bits.
pub record Fit (n : ℕ) (codes : List CodedField) : Type 0 where
  pub long : length codes ≡ n
  pub each : (i : ℕ) (none : CodedField) → i < n → Fitting (get_or codes i none).width (get_or codes i none).code

abbrev pub field_piece : CodedField → Piece
field_piece x = piece x.width x.code

-- A code, from its packed number.
abbrev pub unpack : ℕ → CodedField
unpack n = record { width = n / 2 ^ 56; code = n % 2 ^ 56 }

abbrev pub unpacked : List ℕ → List CodedField
unpacked codes = map unpack codes

-- A code in place of one that is not on the list yet.
abbrev pub blank : CodedField
blank = record { width = 1; code = 0 }

-- ---- the list

-- The first codes, as pieces.
abbrev pub first_codes : List CodedField → ℕ → List Piece
first_codes codes count = take count (map field_piece codes)

-- A list with the four codes that begin a block: selector 0, the template's number, the domain and a count.
unfoldable pub block_head : List CodedField → ℕ → ℕ → ℕ → ℕ → List CodedField
block_head codes number domain width count =
    set (set (set (set codes 0 (record { width = 2; code = 0 })) 1 (record { width = 8; code = number })) 2 (record { width = 1; code = domain })) 3 (record { width = width; code = count })

-- Basic, the first block, and the codes after them.
abbrev pub coded_list : Template → List CodedField → ℕ → List Piece
coded_list template codes count =
    slice 0 (length basic) (map field_piece codes) ++
    (block_pieces (number_of template) ++ slice (length basic) count (map field_piece codes))

-- All pieces of a sheet.
abbrev pub coded_sheet : Template → List CodedField → ℕ → Bool → List ℕ → List Piece
coded_sheet template codes count end_bit text = coded_list template codes count ++ ending_pieces end_bit text

-- ---- what goes onto it

-- Pieces as a bit string: how many bits, and the number. One code may be several pieces.
pub record BitString : Type 0 where
  pub bits : ℕ
  pub number : ℕ

abbrev pub bit_string : List Piece → BitString
bit_string pieces = record { bits = needed pieces; number = pack pieces }

-- A list of n codes begins with those of a block, or the block is refused.
pub record BlockPlanned (block : Outcome (List Piece)) (n : ℕ) (codes : List CodedField) (r : Outcome Listed) : Type 0 where
  pub said : (r >>= λ l. Ok (bit_string (first_codes codes l.count))) ≡ (block >>= λ pieces. Ok (bit_string pieces))
  pub fit : Fit n codes
  pub count : (l : Listed) → r ≡ Ok l → (l.count ≤ n) × (l.bits ≡ needed (first_codes codes l.count)) × (l.bits < 2 ^ 16)

-- Codes, and those after them.
abbrev pub both_listed : Listed → Listed → Listed
both_listed first second = record { count = first.count + second.count; bits = first.bits + second.bits }

-- ---- what is written

-- A list and a text that passed their tests.
pub record Ready (template : Template) (codes : List ℕ) (listed : Listed) (text : List ℕ) : Type 0 where
  pub fit : Fit (length codes) (unpacked codes)
  pub some : length basic < listed.count
  pub most : listed.count ≤ length codes
  pub count : listed.bits ≡ needed (coded_list template (unpacked codes) listed.count)
  pub small : listed.bits < 2 ^ 17
  pub characters : (i : ℕ) → get_or text i 0 < 128

-- The image of the pieces, if the stream has the bits that they need.
unfoldable pub fitted : Sizes → List Piece → Outcome (List ℕ)
fitted z pieces = do
  refuse TooLong (as_far_as_64_bits (needed pieces)) if ltb (stream_bits z) (needed pieces)
  Ok (image_of z (pack pieces))

-- The refusal of the tests, or the image of what is on the list.
abbrev pub finished : Sizes → Template → Bool → List ℕ → List CodedField → Outcome Listed → Outcome (List ℕ)
finished z template end_bit text codes (Err r) = Err r
finished z template end_bit text codes (Ok listed) = fitted z (coded_sheet template codes listed.count end_bit text)
