-- Document 01, "Layout" and "Turning down", and document 02, Notes 7, 9 and 11:
-- "the stream from its start". One format defines all that a sheet may hold, in the
-- order of the stream, with its refusals; a check parses an image's stream by it.
use Rattle.std.specs.Prelude.{Bool, not, cond, List, [], ◌∷◌, ◌++◌, ℕ, zero, suc, ◌+◌, ◌/◌, eqb, ltb}
use Rattle.std.specs.Prelude.{Option, None, Some}
use Rattle.refusal.specs.declared.Refusal.TheVariants.{WrongBlock, WrongCurve, TooManyTerms}
use Rattle.codes.specs.declared.Value.{Value}
use Rattle.codes.specs.declared.Row.{Row}
use Rattle.templates.specs.declared.Template.{Template}
use Rattle.templates.specs.declared.Codes.{Codes}
use Rattle.templates.specs.declared.Domain.{Domain}
use Rattle.codes.specs.Rules.{decode}
use Rattle.templates.specs.Lines.{Line, chose, basic, template_lines, template_of}
use Rattle.templates.specs.Calibration.{cal_domain, domain_of, point_count, cal_point, cal_deviation, codes_of, follows}
use Rattle.templates.specs.Curves.{curve_domain, segment_count, segment_start, term_count, exponent, coefficient, is_segment_count, is_term_count, most_terms, start_follows, tenths_of, tenths_before, exponent_follows}
use Rattle.layout.specs.Format.{Format, ends, stops, ◌>>=◌, ◌>>◌, bits, place, remaining, given, reject◌if◌, repeated}

-- ---- what a sheet holds

-- A field in the stream: its row, its first bit, its code and the code's value.
pub record Found : Type 0 where
  pub row : Row
  pub at : ℕ
  pub code : ℕ
  pub value : Value

-- A calibration point with its deviation.
pub record FoundPair : Type 0 where
  pub point : Found
  pub deviation : Found

-- A term of a curve.
pub record FoundTerm : Type 0 where
  pub exponent : Found
  pub coefficient : Found

-- A segment of a curve: its start, the number of its terms, and the terms.
pub record FoundSegment : Type 0 where
  pub start : Found
  pub count : Found
  pub terms : List FoundTerm

-- After the fields: nothing, a calibration table in its domain, or a curve.
pub data Calibration : Type 0 where
  bare : Calibration
  table : Domain → List FoundPair → Calibration
  curve : List FoundSegment → Calibration

-- The template, the fields from 1 on, the calibration,
-- the end bit, the text, and the bits up to the end.
pub record Contents : Type 0 where
  pub template : Template
  pub fields : List Found
  pub calibration : Calibration
  pub end_bit : Bool
  pub text : List ℕ
  pub bits : ℕ

-- ---- the fields

-- Rows 3, then 5 or 6: the field of a row.
unfoldable pub field_of : Row → Format Found
field_of row = do
  at ← place
  code ← bits row.width
  value ← given (decode row at code)
  ends (record { row = row; at = at; code = code; value = value })

-- Fields line by line, with the latest choice.
unfoldable pub fields_of : List Line → ℕ → Format (List Found)
fields_of [] latest = ends []
fields_of (line ∷ lines) latest = do
  x ← field_of (line.row_at latest)
  rest ← fields_of lines (chose line.sets x.code latest)
  ends (x ∷ rest)

-- ---- the first block

-- Row 4: a selector that has to be the expected one.
unfoldable pub selector_of : ℕ → Format (Unit {0})
selector_of wanted = do
  at ← place
  selector ← bits 2
  reject WrongBlock at if not (eqb selector wanted)

-- Row 4: a known template, in the block whose selector is at a place.
abbrev pub named : ℕ → Option Template → Format Template
named at (Some template) = ends template
named at None = stops (WrongBlock at)

-- Selector 0 and the template's number.
unfoldable pub first_block : Format Template
first_block = do
  at ← place
  selector_of 0
  number ← bits 8
  named at (template_of number)

-- ---- block 40

abbrev pub paired : Found → Found → FoundPair
paired point deviation = record { point = point; deviation = deviation }

abbrev pub codes_in : FoundPair → Codes
codes_in p = codes_of p.point.code p.deviation.code

-- A pair: "3 and 5 of the point, 3 and 5 of its deviation, then 7"; in domain 1 then 22.
unfoldable pub pair_of : Domain → Option Codes → Format FoundPair
pair_of domain before = do
  point ← field_of cal_point
  deviation ← field_of cal_deviation
  given (follows domain before point.at (codes_in (paired point deviation)))
  ends (paired point deviation)

-- n pairs in order.
unfoldable pub pairs_of : Domain → ℕ → Option Codes → Format (List FoundPair)
pairs_of domain zero before = ends []
pairs_of domain (suc n) before = do
  pair ← pair_of domain before
  rest ← pairs_of domain n (Some (codes_in pair))
  ends (pair ∷ rest)

-- The domain, the count and the pairs.
unfoldable pub table_of : Format Calibration
table_of = do
  x ← field_of cal_domain
  count ← field_of point_count
  pairs ← pairs_of (domain_of x.code) count.code None
  ends (table (domain_of x.code) pairs)

-- ---- block 41

-- Rows 3, 5, 6, then 24: the field of a row, which has to obey a rule of the curve.
unfoldable pub ruled_of : Row → (ℕ → Bool) → Format Found
ruled_of row rule = do
  x ← field_of row
  reject WrongCurve x.at if not (rule x.code)
  ends x

-- A term after the one before it in its segment: 3, 5
-- and 24 of the exponent, 3, 5 and 6 of the coefficient.
unfoldable pub term_of : Option ℕ → Format FoundTerm
term_of before = do
  x ← ruled_of exponent (λ code. exponent_follows (tenths_before before) (tenths_of code))
  c ← field_of coefficient
  ends (record { exponent = x; coefficient = c })

abbrev pub behind_term : Option ℕ → FoundTerm → Option ℕ
behind_term before t = Some t.exponent.code

-- n terms in order.
unfoldable pub terms_of : ℕ → Format (List FoundTerm)
terms_of n = repeated term_of behind_term n None

-- What comes before a segment: the start of the last one, if any, and the number of terms so far.
pub record Passed : Type 0 where
  pub start : Option ℕ
  pub terms : ℕ

-- A segment: 3, 5 and 24 of the start, 3, 24 and 25 of the number of terms, and the terms.
unfoldable pub segment_of : Passed → Format FoundSegment
segment_of before = do
  start ← ruled_of segment_start (start_follows before.start)
  count ← ruled_of term_count is_term_count
  let total = before.terms + count.code
  reject TooManyTerms total if ltb most_terms total
  terms ← terms_of count.code
  ends (record { start = start; count = count; terms = terms })

abbrev pub behind_segment : Passed → FoundSegment → Passed
behind_segment before s = record { start = Some s.start.code; terms = before.terms + s.count.code }

abbrev pub nothing_passed : Passed
nothing_passed = record { start = None; terms = 0 }

-- n segments in order.
unfoldable pub segments_of : ℕ → Format (List FoundSegment)
segments_of n = repeated segment_of behind_segment n nothing_passed

-- The domain, the number of segments and the segments.
unfoldable pub curve_of : Format Calibration
curve_of = do
  field_of curve_domain
  count ← ruled_of segment_count is_segment_count
  segments ← segments_of count.code
  ends (curve segments)

-- ---- one block of either

-- Row 4: the block of a template's number, if it is 40 or 41; its selector is at a place.
abbrev pub block_of : ℕ → ℕ → Format Calibration
block_of at number = cond (eqb number 40) table_of (cond (eqb number 41) curve_of (stops (WrongBlock at)))

-- The block whose selector 0 was read at a place: template 40 or 41.
unfoldable pub block_at : ℕ → Format Calibration
block_at at = do
  number ← bits 8
  block_of at number

-- After the fields: one block and selector 3, or selector 3 alone.
unfoldable pub calibration_of : Format Calibration
calibration_of = do
  at ← place
  selector ← bits 2
  cond (eqb selector 0)
      (block_at at >>= λ calibration. selector_of 3 >> ends calibration)
      (reject WrongBlock at if not (eqb selector 3) >> ends bare)

-- ---- the ending

-- At most n characters of 7 bits, "up to a zero character".
unfoldable pub characters_of : ℕ → Format (List ℕ)
characters_of zero = ends []
characters_of (suc n) = do
  c ← bits 7
  cond (eqb c 0) (ends []) (characters_of n >>= λ text. ends (c ∷ text))

-- The end bit, and the text after it.
pub record Ending : Type 0 where
  pub end_bit : Bool
  pub text : List ℕ

-- The end bit: "0, nothing more; 1, text in 7-bit characters
-- up to a zero character or until fewer than 7 bits remain."
unfoldable pub ending_of : Format Ending
ending_of = do
  end_bit ← bits 1
  left ← remaining
  text ← characters_of (cond (eqb end_bit 1) (left / 7) 0)
  ends (record { end_bit = eqb end_bit 1; text = text })

-- ---- the sheet

-- Basic, the first block, its template's fields, a calibration and the ending.
unfoldable pub sheet_of : Format Contents
sheet_of = do
  basics ← fields_of basic 0
  template ← first_block
  own ← fields_of (template_lines template) 0
  calibration ← calibration_of
  ending ← ending_of
  end ← place
  ends (record {
    template = template;
    fields = basics ++ own;
    calibration = calibration;
    end_bit = ending.end_bit;
    text = ending.text;
    bits = end;
  })
