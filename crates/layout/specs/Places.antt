-- Document 01, "Layout", and document 02, Note 11: the places of fields, pairs
-- and characters in an accepted sheet, as sums of the widths before them.
use Rattle.std.specs.Prelude.{cond, ℕ, zero, suc, ◌+◌, ◌-◌, ◌*◌, ltb, length}
use Rattle.templates.specs.declared.Layout.{Layout}
use Rattle.templates.specs.Lines.{basic, lines_of, ending, bits_before}
use Rattle.templates.specs.Calibration.{cal_domain, point_count, cal_point, cal_deviation}
use Rattle.templates.specs.Curves.{curve_domain, segment_count, segment_start, term_count, exponent, coefficient}

-- The bits of a block's selector and template number.
abbrev pub block_bits : ℕ
block_bits = 2 + 8

-- The first selector follows Basic's 64 bits, and the first template's number follows the selector.
abbrev pub first_selector : ℕ
first_selector = 64

abbrev pub first_number : ℕ
first_number = first_selector + 2

-- The first bit of field f, counted from 1. The first
-- block comes between Basic and the template's fields.
unfoldable pub field_place : Layout → ℕ → ℕ
field_place layout f = bits_before (lines_of layout.template) layout.precision (f - 1) + cond (ltb (length basic) f) block_bits 0

-- The first bit after the fields.
abbrev pub behind_fields : Layout → ℕ
behind_fields layout = field_place layout (ending layout.template)

-- Before a table's pairs come its block, domain and count. A pair is a point and a deviation.
abbrev pub table_start : ℕ
table_start = block_bits + cal_domain.width + point_count.width

abbrev pub pair_bits : ℕ
pair_bits = cal_point.width + cal_deviation.width

-- The bits of a table of n pairs; 0 without a table.
abbrev pub table_bits : ℕ → ℕ
table_bits zero = 0
table_bits (suc n) = table_start + pair_bits * suc n

-- The first bit of pair i.
abbrev pub pair_place : Layout → ℕ → ℕ
pair_place layout i = behind_fields layout + table_start + pair_bits * i

-- Before a curve's segments come its block, domain and number of segments. A segment is
-- a start, a number of terms, and the terms; a term is an exponent and a coefficient.
abbrev pub curve_start : ℕ
curve_start = block_bits + curve_domain.width + segment_count.width

abbrev pub segment_head : ℕ
segment_head = segment_start.width + term_count.width

abbrev pub term_bits : ℕ
term_bits = exponent.width + coefficient.width

-- The bits of a curve of n segments with that many terms; 0 without a curve.
abbrev pub curve_bits : ℕ → ℕ → ℕ
curve_bits zero terms = 0
curve_bits (suc n) terms = curve_start + segment_head * suc n + term_bits * terms

-- The first bit after the table or the curve, whichever there is.
abbrev pub behind_block : Layout → ℕ → ℕ → ℕ → ℕ
behind_block layout points segments terms = behind_fields layout + table_bits points + curve_bits segments terms

-- The first bit of character i: selector 3 and the end bit come before the first.
abbrev pub character_place : Layout → ℕ → ℕ → ℕ → ℕ → ℕ
character_place layout points segments terms i = behind_block layout points segments terms + 3 + 7 * i
