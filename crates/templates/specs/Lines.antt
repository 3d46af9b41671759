-- Document 01, "Layout", and document 02, Notes 6 and 7: the order of the table of
-- fields, with the marks of document 000's template lines. Basic comes first, then
-- the lines of the template that the first block names. The count of fields, the
-- numbers and marks, and the field that sets widths all follow from these lists.
use Rattle.std.specs.Prelude.{Bool, true, false, cond, List, [], ◌∷◌, ◌++◌, map, ℕ, zero, suc, ◌+◌, ◌-◌, eqb, length, get_or}
use Rattle.std.specs.Prelude.{Option, None, Some}
use Rattle.codes.specs.declared.Row.{Row}
use Rattle.templates.specs.declared.Mark.{Mark}
use Rattle.templates.specs.declared.Mark.TheVariants.{Id, Cal, Usr}
use Rattle.templates.specs.declared.Template.{Template}
use Rattle.templates.specs.declared.Template.TheVariants.{Bridge, Resistance}
use Rattle.templates.specs.declared.Layout.{Layout}
use Rattle.templates.specs.Rows.{any, manufacturer_id, model_number, version_letter, version_number, serial_number, measurand, physical, response_time, cal_date, cal_initials, cal_period, location_id, bridge_precision}
use Rattle.templates.specs.Rows.{bridge_end, bridge_type, impedance, excitation, resistance_precision, resistance_end, mapping_method, current}

-- ---- a line

-- Document 000's mark, whether the field's code sets the widths of
-- later ones, and the row, which may depend on the latest such code.
pub record Line : Type 0 where
  pub mark : Mark
  pub sets : Bool
  pub row_at : ℕ → Row

abbrev pub line : Mark → Row → Line
line mark row = record { mark = mark; sets = false; row_at = λ latest. row }

abbrev pub choice : Mark → Row → Line
choice mark row = record { mark = mark; sets = true; row_at = λ latest. row }

abbrev pub chosen : Mark → (ℕ → Row) → Line
chosen mark row_at = record { mark = mark; sets = false; row_at = row_at }

-- The line in place of one that is not there.
abbrev pub no_line : Line
no_line = line Id (any 0)

-- The latest choice after a field.
abbrev pub chose : Bool → ℕ → ℕ → ℕ
chose true code latest = code
chose false code latest = latest

-- ---- the templates

-- Basic: fields 1 to 5.
unfoldable pub basic : List Line
basic = map (line Id) (manufacturer_id ∷ model_number ∷ version_letter ∷ version_number ∷ serial_number ∷ [])

-- Template 33: fields 6 to 21.
unfoldable pub template33 : List Line
template33 =
    line Id measurand ∷ line Cal physical ∷ line Cal physical ∷ choice Cal bridge_precision ∷ chosen Cal bridge_end ∷ chosen Cal bridge_end ∷
    line Id bridge_type ∷ line Id impedance ∷ line Id response_time ∷ line Id excitation ∷ line Id excitation ∷ line Id excitation ∷
    line Cal cal_date ∷ line Cal cal_initials ∷ line Cal cal_period ∷ line Usr location_id ∷ []

-- Template 32: fields 6 to 19. The nominal current is marked CAL, the greatest ID.
unfoldable pub template32 : List Line
template32 =
    line Id measurand ∷ line Cal physical ∷ line Cal physical ∷ choice Cal resistance_precision ∷ chosen Cal resistance_end ∷ chosen Cal resistance_end ∷
    line Id mapping_method ∷ line Id response_time ∷ line Cal current ∷ line Id current ∷
    line Cal cal_date ∷ line Cal cal_initials ∷ line Cal cal_period ∷ line Usr location_id ∷ []

abbrev pub template_lines : Template → List Line
template_lines Bridge = template33
template_lines Resistance = template32

abbrev pub number_of : Template → ℕ
number_of Bridge = 33
number_of Resistance = 32

-- The template of a number, if there is one.
abbrev pub template_of : ℕ → Option Template
template_of number =
    cond (eqb number (number_of Bridge)) (Some Bridge) (cond (eqb number (number_of Resistance)) (Some Resistance) None)

-- ---- all fields, counted from 1

unfoldable pub lines_of : Template → List Line
lines_of template = basic ++ template_lines template

-- The template's own last number, 21 or 19; "the ending is next".
abbrev pub last_field : Template → ℕ
last_field template = length (lines_of template)

abbrev pub ending : Template → ℕ
ending template = suc (last_field template)

abbrev pub line_of : Template → ℕ → Line
line_of template f = get_or (lines_of template) (f - 1) no_line

-- The row of field f.
abbrev pub row_of : Layout → ℕ → Row
row_of layout f = (line_of layout.template f).row_at layout.precision

-- The rows of lines in order, at a choice.
abbrev pub rows_of : List Line → ℕ → List Row
rows_of lines latest = map (λ line. line.row_at latest) lines

-- The bits of the first i lines, at a choice.
abbrev pub bits_before : List Line → ℕ → ℕ → ℕ
bits_before [] latest i = 0
bits_before (l ∷ lines) latest zero = 0
bits_before (l ∷ lines) latest (suc i) = (l.row_at latest).width + bits_before lines latest i
