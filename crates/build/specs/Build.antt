-- Document 01, and document 02, Notes 7, 9 and 11: build an image. Order: 1, 16, fields and ending
-- each 9 then 10, points each 10 for point, 10 for deviation, then 7 and 22, or the curve's 24, 10
-- and 25 in stream order; last 11. The result is a list of pieces: widths and codes in order.
use Rattle.std.specs.Prelude.{Bool, false, not, ◌||◌, ◌&&◌, List, [], ◌∷◌, ◌++◌, map, ℕ, suc, ◌+◌, ◌-◌, ◌%◌, ◌^◌, min, eqb, ltb, length, get_or, take, drop, ℤ, pos, ◌*ℤ◌}
use Rattle.std.specs.Prelude.{Option, None, Some}
use Rattle.refusal.specs.Outcome.{Outcome, Ok, ◌>>◌, ◌>>=◌, refuse◌if◌}
use Rattle.refusal.specs.declared.Refusal.TheVariants.{WrongSort, OutOfRange, TooLong, WrongList, WrongCurve, TooManyTerms}
use Rattle.memory.specs.declared.Sizes.{Sizes}
use Rattle.memory.specs.Image.{image_sizes, stream_bits, image_of}
use Rattle.memory.specs.Pieces.{Piece, piece, pack, needed}
use Rattle.codes.specs.declared.Value.{Value}
use Rattle.codes.specs.declared.Value.TheVariants.{Whole, Single, Missing}
use Rattle.templates.specs.declared.Template.{Template}
use Rattle.templates.specs.declared.Pair.{Pair}
use Rattle.templates.specs.declared.Codes.{Codes}
use Rattle.templates.specs.declared.Domain.{Domain}
use Rattle.templates.specs.declared.Segment.{Segment}
use Rattle.templates.specs.declared.Term.{Term}
use Rattle.templates.specs.declared.Curve.{Curve}
use Rattle.codes.specs.Rules.{encode}
use Rattle.templates.specs.Lines.{Line, chose, basic, template_lines, number_of, ending}
use Rattle.templates.specs.Calibration.{domain_code, cal_point, cal_deviation, codes_of, follows}
use Rattle.templates.specs.Curves.{segment_count, segment_start, term_count, exponent, coefficient, is_segment_count, is_term_count, most_terms, start_follows, exponent_code}
use Rattle.layout.specs.Pieces.{block_pieces, end_code}
use Rattle.build.specs.declared.Slot.{Slot}
use Rattle.build.specs.declared.Sheet.{Sheet}

-- ---- the fields

abbrev pub slot : Value → Slot
slot v = record { value = v }

-- The value lent for field f, counted from 1. Lent is
-- document 01's term: passed for the time of the call.
abbrev pub lent : Sheet → ℕ → Value
lent sheet f = (get_or sheet.fields (f - 1) (slot Missing)).value

-- The template of the first block.
abbrev pub template_in : Sheet → Template
template_in sheet = sheet.template

-- The pieces of lines from field f on, with the latest choice.
unfoldable pub line_pieces : Sheet → List Line → ℕ → ℕ → Outcome (List Piece)
line_pieces sheet [] latest f = Ok []
line_pieces sheet (line ∷ lines) latest f = do
  code ← encode (line.row_at latest) f (lent sheet f)
  rest ← line_pieces sheet lines (chose line.sets code latest) (suc f)
  Ok (piece (line.row_at latest).width code ∷ rest)

-- The pieces of Basic, the first block and the template's fields.
unfoldable pub field_pieces : Sheet → Outcome (List Piece)
field_pieces sheet = do
  basics ← line_pieces sheet basic 0 1
  own ← line_pieces sheet (template_lines (template_in sheet)) 0 (suc (length basic))
  Ok (basics ++ (block_pieces (number_of (template_in sheet)) ++ own))

-- ---- the ending: "end bit and text, characters 1 to 127"

abbrev pub unfit : List ℕ → Bool
unfit [] = false
unfit (c ∷ text) = eqb c 0 || ltb 127 c || unfit text

unfoldable pub ending_tested : ℕ → Bool → List ℕ → Outcome (Unit {0})
ending_tested f end_bit text = do
  refuse WrongSort f if not end_bit && ltb 0 (length text)
  refuse OutOfRange f if unfit text

-- Selector 3, the end bit and the text.
abbrev pub ending_pieces : Bool → List ℕ → List Piece
ending_pieces end_bit text = piece 2 3 ∷ piece 1 (end_code end_bit) ∷ map (piece 7) text

-- ---- block 40

-- "lent as 64-bit point and deviation by turns"
abbrev pub pairs_lent : List ℤ → List Pair
pairs_lent [] = []
pairs_lent (a ∷ []) = []
pairs_lent (a ∷ s ∷ l) = record { point = a; deviation = s } ∷ pairs_lent l

-- The codes of pair i: 10 for the point, 10 for its deviation.
unfoldable pub codes_for : ℕ → Pair → Outcome Codes
codes_for i p = do
  point ← encode cal_point i (Whole p.point)
  deviation ← encode cal_deviation i (Whole p.deviation)
  Ok (codes_of point deviation)

-- The codes of pair i after the pair before it: then 7, and 22 in domain 1.
unfoldable pub pair_codes : Domain → Option Codes → ℕ → Pair → Outcome Codes
pair_codes domain before i p = do
  codes ← codes_for i p
  follows domain before i codes
  Ok codes

-- The pairs from index i on.
unfoldable pub pair_pieces : Domain → Option Codes → ℕ → List Pair → Outcome (List Piece)
pair_pieces domain before i [] = Ok []
pair_pieces domain before i (p ∷ pairs) = do
  codes ← pair_codes domain before i p
  rest ← pair_pieces domain (Some codes) (suc i) pairs
  Ok (piece cal_point.width codes.point ∷ piece cal_deviation.width codes.deviation ∷ rest)

-- Selector 0, template 40, the domain, the count and the pairs. "A build
-- from an empty points list writes no block 40"; such a list has no domain.
unfoldable pub table_pieces : Domain → List Pair → Outcome (List Piece)
table_pieces domain [] = Ok []
table_pieces domain (p ∷ pairs) = do
  pieces ← pair_pieces domain None 0 (p ∷ pairs)
  Ok (block_pieces 40 ++ (piece 1 (domain_code domain) ∷ piece 7 (length (p ∷ pairs)) ∷ pieces))

-- ---- block 41

-- Terms, from index i over the whole curve: 24 of the
-- exponent, which is stored in tenths, 10 of the coefficient.
unfoldable pub term_pieces : Option ℤ → ℕ → List Term → Outcome (List Piece)
term_pieces before i [] = Ok []
term_pieces before i (t ∷ terms) = do
  power ← exponent_code before i (pos 10 *ℤ t.exponent)
  factor ← encode coefficient i (Single t.coefficient)
  rest ← term_pieces (Some (pos 10 *ℤ t.exponent)) (suc i) terms
  Ok (piece exponent.width power ∷ piece coefficient.width factor ∷ rest)

-- The term count of segment i: 24, then 25 with the terms before it.
unfoldable pub count_tested : ℕ → ℕ → ℕ → Outcome (Unit {0})
count_tested i total terms = do
  refuse WrongCurve i if not (is_term_count terms)
  refuse TooManyTerms (total + terms) if ltb most_terms (total + terms)

-- The code of segment i's start: 10, then 24; then the test of its term count.
unfoldable pub start_code : Option ℕ → ℕ → ℕ → Segment → Outcome ℕ
start_code before i total s = do
  start ← encode segment_start i (Whole s.start)
  refuse WrongCurve i if not (start_follows before start)
  count_tested i total s.terms
  Ok start

-- Segments from index i on, each with its own terms from those left.
unfoldable pub segment_pieces : Option ℕ → ℕ → ℕ → List Segment → List Term → Outcome (List Piece)
segment_pieces before i total [] terms = Ok []
segment_pieces before i total (s ∷ segments) terms = do
  start ← start_code before i total s
  own ← term_pieces None total (take s.terms terms)
  rest ← segment_pieces (Some start) (suc i) (total + s.terms) segments (drop s.terms terms)
  Ok (piece segment_start.width start ∷ piece term_count.width s.terms ∷ (own ++ rest))

-- Selector 0, template 41, domain 0, the segment count and
-- the segments. Unused segments and terms are ignored.
unfoldable pub curve_pieces : Curve → Outcome (List Piece)
curve_pieces curve = do
  refuse WrongCurve curve.count if not (is_segment_count curve.count)
  pieces ← segment_pieces None 0 0 (take curve.count curve.segments) curve.terms
  Ok (block_pieces 41 ++ (piece 1 0 ∷ piece segment_count.width curve.count ∷ pieces))

-- ---- the image

-- "A build is handed a points list or a curve, not both."
pub data Table : Type 0 where
  listed : Domain → List ℤ → Table
  by_curve : Curve → Table

-- Row 16: "points list, lent as 64-bit point and deviation by turns, odd or over 254 long".
abbrev pub list_tested : Table → Outcome (Unit {0})
list_tested (listed domain points) = refuse WrongList (length points) if eqb (length points % 2) 1 || ltb 254 (length points)
list_tested (by_curve curve) = Ok tt

-- The pieces of the block after the fields.
abbrev pub behind_pieces : Table → Outcome (List Piece)
behind_pieces (listed domain points) = table_pieces domain (pairs_lent points)
behind_pieces (by_curve curve) = curve_pieces curve

-- The tests in their order, then all pieces that a build writes.
unfoldable pub plan : Sheet → List ℕ → Table → Outcome (List Piece)
plan sheet text table = do
  list_tested table
  fields ← field_pieces sheet
  ending_tested (ending (template_in sheet)) sheet.end_bit text
  behind ← behind_pieces table
  Ok (fields ++ (behind ++ ending_pieces sheet.end_bit text))

-- The bits needed, as row 11's refusal holds them: the greatest number of 64 bits, if they
-- are more. Its place then names them, "65,535 if they are more than that".
abbrev pub as_far_as_64_bits : ℕ → ℕ
as_far_as_64_bits n = min n (2 ^ 64 - 1)

-- The image of these sizes. "Bits after the end are not judged; a build
-- writes zeros there"; the zero character that ends a text is among them.
unfoldable pub built_in : Sizes → Sheet → List ℕ → Table → Outcome (List ℕ)
built_in z sheet text table = do
  pieces ← plan sheet text table
  refuse TooLong (as_far_as_64_bits (needed pieces)) if ltb (stream_bits z) (needed pieces)
  Ok (image_of z (pack pieces))

-- The image that a build makes in a buffer of a kind.
unfoldable pub build_with : ℕ → List ℕ → Sheet → List ℕ → Table → Outcome (List ℕ)
build_with kind buffer sheet text table = do
  z ← image_sizes kind (length buffer)
  built_in z sheet text table

abbrev pub build : ℕ → List ℕ → Sheet → List ℕ → Domain → List ℤ → Outcome (List ℕ)
build kind buffer sheet text domain points = build_with kind buffer sheet text (listed domain points)

abbrev pub build_curve : ℕ → List ℕ → Sheet → List ℕ → Curve → Outcome (List ℕ)
build_curve kind buffer sheet text curve = build_with kind buffer sheet text (by_curve curve)
