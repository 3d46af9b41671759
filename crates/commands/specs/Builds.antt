-- docs/CONSOLE.md: build KIND LENGTH LEVEL TEMPLATE V1 .. Vn ENDBIT TEXT, and then
-- DOMAIN POINTS or `curve` COUNT SEGMENTS TERMS. Words are counted from 0, the command.
use Rattle.std.specs.Prelude.{Bool, cond, List, [], ◌∷◌, ℕ, ◌+◌, eqb, leb, ℤ, replicate}
use Rattle.std.specs.Prelude.{Option, Some, option_map}
use Rattle.templates.specs.declared.Curve.{Curve}
use Rattle.templates.specs.declared.Level.{Level}
use Rattle.templates.specs.declared.Template.{Template}
use Rattle.codes.specs.declared.Value.TheVariants.{Missing}
use Rattle.templates.specs.Lines.{template_of, last_field}
use Rattle.texts.specs.Text.{same}
use Rattle.build.specs.declared.Slot.{Slot}
use Rattle.build.specs.declared.Sheet.{Sheet}
use Rattle.build.specs.Build.{slot}
use Rattle.console_words.specs.Words.{word_count, word_at}
use Rattle.console_words.specs.Said.{says◌if◌}
use Rattle.console_words.specs.Figures.{number, figures}
use Rattle.console_words.specs.Hexadecimal.{bytes}
use Rattle.console_words.specs.Values.{value}
use Rattle.console_words.specs.Levels.{level}
use Rattle.commands.specs.declared.builds.Head.{Head}
use Rattle.commands.specs.Curves.{curve}
use Rattle.commands.specs.Kinds.{kind_of}
use Rattle.commands.specs.Lists.{◌>>=◌, items, arrayed}

-- V1 is word 5.
abbrev pub first_value : ℕ
first_value = 5

-- The end bit is after the values of the template's fields.
abbrev pub end_bit_word : Template → ℕ
end_bit_word template = first_value + last_field template

-- The letters c u r v e.
abbrev pub curve_word : List ℕ
curve_word = 99 ∷ 117 ∷ 114 ∷ 118 ∷ 101 ∷ []

abbrev pub has_curve : List ℕ → ℕ → Bool
has_curve line end = same (word_at (end + 2) line) curve_word

-- Whether the line ends with the points, or with the terms of a curve.
abbrev pub is_build : List ℕ → ℕ → Bool
is_build line end = cond (has_curve line end) (eqb (word_count line) (end + 6)) (eqb (word_count line) (end + 4))

-- The template that word 4 names, if the line has the words of a build from it, and no others.
abbrev pub template_in : List ℕ → Option Template
template_in line = do
  number ← number (word_at 4 line)
  template ← template_of number
  says template if is_build line (end_bit_word template)

-- KIND LENGTH LEVEL TEMPLATE, words 1 to 4.
abbrev pub head : List ℕ → Option Head
head line = do
  kind ← number (word_at 1 line)
  length ← number (word_at 2 line)
  level ← level (word_at 3 line)
  template ← template_in line
  Some (record { kind = kind_of kind; length = length; level = level; template = template })

-- A value, in the sheet record.
abbrev pub slot_at : List ℕ → ℕ → Option Slot
slot_at line index = option_map slot (value (word_at index line))

-- The values of the template's fields: field f is word f + 4. The record has room for 21.
abbrev pub slots : List ℕ → Template → Option (List Slot)
slots line template = arrayed (items (slot_at line) (last_field template) first_value) (replicate 21 (slot Missing))

-- A bit, or a domain: 0 or 1.
abbrev pub flag : List ℕ → Option ℕ
flag word = do
  n ← number word
  says n if leb n 1

-- The sheet record.
abbrev pub sheet : List ℕ → Template → Level → Option Sheet
sheet line template level = do
  end_bit ← flag (word_at (end_bit_word template) line)
  fields ← slots line template
  Some (record { template = template; fields = fields; end_bit = eqb end_bit 1; level = level })

-- ---- after the end bit

abbrev pub text_in : List ℕ → ℕ → List (Option ℕ)
text_in line end = bytes (word_at (end + 1) line)

abbrev pub domain_in : List ℕ → ℕ → Option ℕ
domain_in line end = flag (word_at (end + 2) line)

abbrev pub points_in : List ℕ → ℕ → List (Option ℤ)
points_in line end = figures (word_at (end + 3) line)

-- COUNT SEGMENTS TERMS, after `curve`.
abbrev pub curve_in : List ℕ → ℕ → Option Curve
curve_in line end = do
  count ← number (word_at (end + 3) line)
  curve count (word_at (end + 4) line) (word_at (end + 5) line)
