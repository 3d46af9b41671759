-- Only inner contracts need this: the fields of a curve whose codes
-- obey a rule of their own (24), each with its row and its rule.
use Rattle.std.specs.Prelude.{Option, Bool, ℕ}
use Rattle.codes.specs.declared.Row.{Row}
use Rattle.templates.specs.Curves.{segment_count, segment_start, term_count, exponent, is_segment_count, is_term_count, start_follows, tenths_of, tenths_before, exponent_follows}
use Rattle.templates.specs.declared.curves.CurveField.{CurveField}
use Rattle.templates.specs.declared.curves.CurveField.TheVariants.{SegmentCount, Start, TermCount, Exponent}

abbrev pub curve_row : CurveField → Row
curve_row SegmentCount = segment_count
curve_row Start = segment_start
curve_row TermCount = term_count
curve_row Exponent = exponent

-- A start and an exponent are compared with the one before them.
abbrev pub curve_rule : CurveField → Option ℕ → ℕ → Bool
curve_rule SegmentCount before = is_segment_count
curve_rule Start before = start_follows (before)
curve_rule TermCount before = is_term_count
curve_rule Exponent before = λ code. exponent_follows (tenths_before (before)) (tenths_of code)
