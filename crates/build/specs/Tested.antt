-- Only inner contracts need this: the answers of a build's
-- tests, and the codes that they put onto the list.
use Rattle.std.specs.Prelude.{Option, ◌≡◌, Bool, false, List, [], ◌∷◌, ◌++◌, map, ℕ, zero, suc, ◌+◌, ◌*◌, ◌^◌, ◌≤◌, ◌<◌, ℤ, pos, ◌*ℤ◌, Float, length, get_or, take, drop}
use Rattle.std.specs.Float.{nan}
use Rattle.refusal.specs.declared.Refusal.{Refusal}
pub use Rattle.refusal.specs.Outcome.{tested}
use Rattle.refusal.specs.Outcome.{Outcome, Ok, Err, ◌>>◌, ◌>>=◌}
use Rattle.memory.specs.declared.Sizes.{Sizes}
use Rattle.memory.specs.Pieces.{Piece, needed}
use Rattle.codes.specs.declared.Value.{Value}
use Rattle.codes.specs.declared.Value.TheVariants.{Whole, Single, Missing}
use Rattle.codes.specs.declared.Row.{Row}
use Rattle.templates.specs.declared.Pair.{Pair}
use Rattle.templates.specs.declared.Segment.{Segment}
use Rattle.templates.specs.declared.Term.{Term}
use Rattle.templates.specs.declared.Template.{Template}
use Rattle.templates.specs.declared.Level.{Level}
use Rattle.templates.specs.declared.Level.TheVariants.{Owner}
use Rattle.codes.specs.Rules.{encode}
use Rattle.templates.specs.Lines.{basic, lines_of, last_field, ending, bits_before}
use Rattle.templates.specs.Curves.{segment_start, term_count, exponent, coefficient, exponent_code}
use Rattle.codes.specs.DirectCode.{DirectCode}
use Rattle.build.specs.declared.Options.{Options}
use Rattle.build.specs.declared.Slot.{Slot}
use Rattle.build.specs.declared.Sheet.{Sheet}
use Rattle.build.specs.declared.list.CodedField.{CodedField}
use Rattle.build.specs.declared.list.Listed.{Listed}
use Rattle.build.specs.Build.{slot, template_in, line_pieces, field_pieces, ending_tested, start_code, Table, built_in}
use Rattle.build.specs.Listed.{Fitting, Fit, field_piece, unpacked, coded_list, Ready, finished}

-- ---- the values of a sheet, lent

-- A value by its sort: 0 is a whole number, 1 a Single, any other missing.
abbrev pub by_sort : ℕ → ℤ → Float → Value
by_sort zero whole single = Whole whole
by_sort (suc zero) whole single = Single single
by_sort (suc (suc n)) whole single = Missing

-- The value at an index of the lent sorts, whole numbers and Singles.
abbrev pub value_lent : List ℕ → List ℤ → List Float → ℕ → Value
value_lent tags wholes singles i = by_sort (get_or tags i 2) (get_or wholes i (pos 0)) (get_or singles i nan)

-- The slots of all lent values.
abbrev pub slots_lent : List ℕ → List ℤ → List Float → List Slot
slots_lent [] wholes singles = []
slots_lent (sort ∷ tags) [] singles = []
slots_lent (sort ∷ tags) (whole ∷ wholes) [] = []
slots_lent (sort ∷ tags) (whole ∷ wholes) (single ∷ singles) = slot (by_sort sort whole single) ∷ slots_lent tags wholes singles

-- The three lists have a value for each field of the sheet record.
pub record LentLengths (tags : List ℕ) (wholes : List ℤ) (singles : List Float) : Type 0 where
  pub sorted : length tags ≡ 21
  pub whole : length wholes ≡ 21
  pub single : length singles ≡ 21

-- The three lists hold the values of the slots.
pub record SplitValues (slots : List Slot) (tags : List ℕ) (wholes : List ℤ) (singles : List Float) : Type 0 where
  pub long : LentLengths tags wholes singles
  pub each : slots_lent tags wholes singles ≡ slots

-- The sheet whose values are lent as three lists.
abbrev pub sheet_lent : Template → Bool → Level → List ℕ → List ℤ → List Float → Sheet
sheet_lent template end_bit level tags wholes singles = record { template = template; fields = slots_lent tags wholes singles; end_bit = end_bit; level = level }

-- A sheet with only these lent fields: the outcome of its fields does not depend on the rest.
abbrev pub fields_lent : Template → List ℕ → List ℤ → List Float → Sheet
fields_lent template tags wholes singles = sheet_lent template false Owner tags wholes singles

-- ---- the fields

-- The code of a value, which fits the row's bits, or the refusal.
pub record Encodes (row : Row) (place : ℕ) (value : Value) (answer : Outcome ℕ) : Type 0 where
  pub said : answer ≡ encode row place value
  pub fits : (code : ℕ) → answer ≡ Ok code → code < 2 ^ row.width

-- A row's bits, and the code of field i + 1 by it, if it is below 2^32.
pub record Quick (row : Row) (tags : List ℕ) (wholes : List ℤ) (singles : List Float) (i : ℕ) (quick : CodedField) : Type 0 where
  pub wide : quick.width ≡ row.width
  pub direct : DirectCode row (value_lent tags wholes singles i) quick.code

-- The outcome of a sheet's lines if the first i have these
-- codes, and the others depend on the latest choice.
abbrev pub coded_from : Sheet → List CodedField → ℕ → ℕ → Outcome (List Piece)
coded_from sheet fields latest i =
    line_pieces sheet (drop i (lines_of (template_in sheet))) latest (suc i) >>= λ rest. Ok (take i (map field_piece fields) ++ rest)

-- The first i fields of a lent sheet have their codes; `latest` is the choice after them.
pub record FieldsCoded (t : Template) (tags : List ℕ) (wholes : List ℤ) (singles : List Float) (codes : List ℕ) (latest i : ℕ) : Type 0 where
  pub long : LentLengths tags wholes singles
  pub inside : i ≤ last_field t
  pub fit : Fit 21 (unpacked codes)
  pub rest : coded_from (fields_lent t tags wholes singles) (unpacked codes) latest i ≡ line_pieces (fields_lent t tags wholes singles) (lines_of t) 0 1
  pub count : needed (take i (map field_piece (unpacked codes))) ≡ bits_before (lines_of t) latest i

-- The first n fields have their codes, or one of them is refused.
pub record CodedTo (n : ℕ) (t : Template) (tags : List ℕ) (wholes : List ℤ) (singles : List Float) (codes : List ℕ) (answer : Outcome ℕ) : Type 0 where
  pub done : (latest : ℕ) → answer ≡ Ok latest → FieldsCoded t tags wholes singles codes latest n
  pub stop : (r : Refusal) → answer ≡ Err r → field_pieces (fields_lent t tags wholes singles) ≡ Err r
  pub fit : Fit 21 (unpacked codes)

-- The fields are the first on a list of 21 codes, or one of them is refused.
pub record FieldsPlanned (sheet : Sheet) (fields : List CodedField) (r : Outcome Listed) : Type 0 where
  pub said : (r >> Ok (coded_list (template_in sheet) fields (last_field (template_in sheet)))) ≡ field_pieces sheet
  pub fit : Fit 21 fields
  pub count : (l : Listed) → r ≡ Ok l → (l.count ≡ last_field (template_in sheet)) × (l.bits ≡ needed (coded_list (template_in sheet) fields (last_field (template_in sheet)))) × (l.bits < 2 ^ 16)

-- ---- the points

-- Pair i of the lent points and deviations by turns.
abbrev pub pair_at : List ℤ → ℕ → Pair
pair_at points i = record { point = get_or points (2 * i) (pos 0); deviation = get_or points (2 * i + 1) (pos 0) }

-- ---- the curve

abbrev pub coded : Row → ℕ → CodedField
coded row code = record { width = row.width; code = code }

-- Two pieces that fit their bits, or the refusal.
abbrev pub two_said : Outcome (CodedField × CodedField) → Outcome (List CodedField)
two_said (Ok (first, second)) = Ok (first ∷ second ∷ [])
two_said (Err r) = Err r

pub record PairCoded (two : Outcome (List CodedField)) (answer : Outcome (CodedField × CodedField)) : Type 0 where
  pub said : two_said answer ≡ two
  pub fits : (first second : CodedField) → answer ≡ Ok (first, second) → Fitting first.width first.code × Fitting second.width second.code

-- The two pieces of a segment, and of a term.
unfoldable pub segment_fields : Option ℕ → ℕ → ℕ → Segment → Outcome (List CodedField)
segment_fields before i total s = do
  start ← start_code before i total s
  Ok (coded segment_start start ∷ coded term_count s.terms ∷ [])

unfoldable pub term_fields : Option ℤ → ℕ → Term → Outcome (List CodedField)
term_fields before i t = do
  power ← exponent_code before i (pos 10 *ℤ t.exponent)
  factor ← encode coefficient i (Single t.coefficient)
  Ok (coded exponent power ∷ coded coefficient factor ∷ [])

-- The codes of a whole curve.
abbrev pub whole_curve : ℕ → ℕ → Listed
whole_curve segments terms = record { count = 4 + 2 * (segments + terms); bits = 19 + 20 * segments + 39 * terms }

-- ---- a sheet

-- The fields are on a list of n codes and the ending passed its test, or one of them is refused.
pub record FrontPlanned (sheet : Sheet) (text : List ℕ) (n : ℕ) (codes : List CodedField) (r : Outcome Listed) : Type 0 where
  pub stop : (x : Refusal) → r ≡ Err x → (field_pieces sheet >> ending_tested (ending (template_in sheet)) sheet.end_bit text) ≡ Err x
  pub fields : (l : Listed) → r ≡ Ok l → field_pieces sheet ≡ Ok (coded_list (template_in sheet) codes l.count)
  pub end : (l : Listed) → r ≡ Ok l → ending_tested (ending (template_in sheet)) sheet.end_bit text ≡ Ok tt
  pub count : (l : Listed) → r ≡ Ok l → (length basic < l.count) × (l.count ≤ 21) × (l.bits ≡ needed (coded_list (template_in sheet) codes l.count)) × (l.bits < 2 ^ 16)
  pub fit : Fit n codes

-- To finish what the tests leave is to build the sheet, whatever the sizes of the image.
pub record SheetPlanned (options : Options) (tags : List ℕ) (wholes : List ℤ) (singles : List Float) (text : List ℕ) (table : Table) (codes : List ℕ) (r : Outcome Listed) : Type 0 where
  pub said : (level : Level) (z : Sizes) → finished z options.template options.end_bit text (unpacked codes) r ≡ built_in z (sheet_lent options.template options.end_bit level tags wholes singles) text table
  pub ready : (l : Listed) → r ≡ Ok l → Ready options.template codes l text
