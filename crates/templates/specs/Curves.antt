-- Document 02, Note 11: curves, template 41. The rows of its fields, and the
-- rules of a curve, for checks and builds. Starts and steps are those of the
-- template's lines in document 000, Annex A; the limits are document 002's.
use Rattle.std.specs.Prelude.{Bool, not, ◌&&◌, ℕ, ◌%◌, eqb, leb, ltb, ℤ, pos, neg_ℤ, nat_abs}
use Rattle.std.specs.Prelude.{Option, None, Some}
use Rattle.std.specs.Int.Signed.{le_z, lt_z}
use Rattle.std.specs.Float.{nan}
use Rattle.refusal.specs.Outcome.{Outcome, ◌>>◌, refuse◌if◌}
use Rattle.refusal.specs.declared.Refusal.TheVariants.{WrongCurve}
use Rattle.codes.specs.declared.Value.TheVariants.{Whole}
use Rattle.codes.specs.declared.Rule.TheVariants.{Plain, Stepped, Single as Ieee}
use Rattle.codes.specs.declared.Row.{Row}
use Rattle.templates.specs.declared.Segment.{Segment}
use Rattle.templates.specs.declared.Term.{Term}
use Rattle.codes.specs.Rules.{stepped_value, encode}
use Rattle.templates.specs.Rows.{always, any}

-- ---- the rows

-- The domain: "Domain 1 is 5 here".
abbrev pub curve_domain : Row
curve_domain = always 1 (Plain 0 0)

-- The number of segments: "no count is 5".
abbrev pub segment_count : Row
segment_count = any 8

-- A segment's start: steps of 0.0123 %, in billionths of the span.
abbrev pub segment_start : Row
segment_start = always 13 (Stepped (pos 0) 123_000)

-- The number of a segment's terms.
abbrev pub term_count : Row
term_count = any 7

-- A term's exponent: start −32, step 0.5, in tenths.
abbrev pub least_exponent : ℤ
least_exponent = neg_ℤ (pos 320)

abbrev pub exponent : Row
exponent = always 7 (Stepped least_exponent 5)

-- A term's coefficient.
abbrev pub coefficient : Row
coefficient = always 32 Ieee

-- ---- the rules

-- "1 to 20 segments, one to six terms each, 30 terms in all"
abbrev pub is_segment_count : ℕ → Bool
is_segment_count n = leb 1 n && leb n 20

abbrev pub is_term_count : ℕ → Bool
is_term_count n = leb 1 n && leb n 6

abbrev pub most_terms : ℕ
most_terms = 30

-- A segment's start after the one before it, if there is
-- one: "segment starts rise as stored, the first at 0".
abbrev pub start_follows : Option ℕ → ℕ → Bool
start_follows None code = eqb code 0
start_follows (Some before) code = ltb before code

-- An exponent in tenths, as stored; and of the term before, if there is one.
abbrev pub tenths_of : ℕ → ℤ
tenths_of code = stepped_value least_exponent 5 code

abbrev pub tenths_before : Option ℕ → Option ℤ
tenths_before None = None
tenths_before (Some before) = Some (tenths_of before)

-- "The exponents we take are the whole numbers 0 to 5, rising inside a segment"; here in tenths.
abbrev pub is_exponent : ℤ → Bool
is_exponent tenths = le_z (pos 0) tenths && le_z tenths (pos 50) && eqb (nat_abs tenths % 10) 0

abbrev pub exponent_follows : Option ℤ → ℤ → Bool
exponent_follows None tenths = is_exponent tenths
exponent_follows (Some before) tenths = is_exponent tenths && lt_z before tenths

-- ---- the segment and the term in place of one that is not there

abbrev pub no_segment : Segment
no_segment = record { start = pos 0; terms = 0 }

abbrev pub no_term : Term
no_term = record { exponent = pos 0; coefficient = nan }

-- The code of a term's exponent in tenths, after the one before it; 24 if it breaks the rules.
abbrev pub exponent_code : Option ℤ → ℕ → ℤ → Outcome ℕ
exponent_code before place tenths = do
  refuse WrongCurve place if not (exponent_follows before tenths)
  encode exponent place (Whole tenths)
