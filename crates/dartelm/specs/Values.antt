-- include/dartelm.h: a field's value by two flags, and the sheet record that a
-- build takes. A flag is yes if it is not 0, so that every byte has a meaning.
use Rattle.std.specs.Prelude.{Bool, not, cond, map, ℕ, zero, suc, eqb, pos, Float}
use Rattle.std.specs.Float.{Format, binary32}
use Rattle.std.specs.Float.Ieee.{of_bits}
use Rattle.codes.specs.declared.Value.{Value}
use Rattle.codes.specs.declared.Value.TheVariants.{Whole, Single, Missing}
use Rattle.templates.specs.declared.Template.{Template}
use Rattle.templates.specs.declared.Template.TheVariants.{Bridge, Resistance}
use Rattle.templates.specs.declared.Domain.{Domain}
use Rattle.templates.specs.declared.Level.{Level}
use Rattle.templates.specs.declared.Level.TheVariants.{Owner, CalibrationRoom, Maker}
use Rattle.reading.specs.declared.Dash.{Dash}
use Rattle.reading.specs.declared.Dash.TheVariants.{Large, Small}
use Rattle.build.specs.declared.Slot.{Slot}
use Rattle.build.specs.declared.Sheet.{Sheet}
use Rattle.build.specs.declared.Options.{Options}
use Rattle.build.specs.Build.{slot}
use Rattle.dartelm.specs.declared.values.DartelmValue.{DartelmValue}
use Rattle.dartelm.specs.declared.values.DartelmFields.{DartelmFields}

abbrev pub yes : ℕ → Bool
yes flag = not (eqb flag 0)

-- The value that is passed: missing if that flag is yes,
-- else a Single if that one is, else a whole number.
abbrev pub value_of : DartelmValue → Value
value_of v = cond (yes v.is_missing) Missing (cond (yes v.is_single) (Single v.single) (Whole v.whole))

-- A level by its number: 0 owner, 1 calibration room, 2 maker; any other is the owner, the lowest.
abbrev pub level_of : ℕ → Level
level_of zero = Owner
level_of (suc zero) = CalibrationRoom
level_of (suc (suc zero)) = Maker
level_of (suc (suc (suc n))) = Owner

-- Note 7: a build takes the template "as one of two cases, so that no third
-- can be handed in". It is a flag: 0 is template 33, anything else 32.
abbrev pub template_by : ℕ → Template
template_by flag = cond (yes flag) Resistance Bridge

-- What a build takes beside the values: template and end bit by their flags.
abbrev pub options_of : ℕ → ℕ → Domain → Options
options_of is_resistance end_bit domain = record { template = template_by is_resistance; end_bit = yes end_bit; domain = domain }

-- The template's flag in an answer.
abbrev pub template_flag : Template → ℕ
template_flag Bridge = 0
template_flag Resistance = 1

-- A dash by its number: 0 is the large one, any other the small one.
abbrev pub dash_by : ℕ → Dash
dash_by number = cond (eqb number 0) Large Small

-- The float of a format whose bits are 0: +0.0.
abbrev pub plus_zero : Format → Float
plus_zero format = of_bits format 0

-- A returned value, with 0 in the members that do not apply.
abbrev pub by_flags : Value → DartelmValue
by_flags (Whole z) = record { whole = z; single = plus_zero binary32; is_single = 0; is_missing = 0 }
by_flags (Single x) = record { whole = pos 0; single = x; is_single = 1; is_missing = 0 }
by_flags Missing = record { whole = pos 0; single = plus_zero binary32; is_single = 0; is_missing = 1 }

-- Zeros in place of a value, as the whole number 0.
abbrev pub no_value : DartelmValue
no_value = by_flags (Whole (pos 0))

-- The sheet record that is passed.
abbrev pub slot_of : DartelmValue → Slot
slot_of v = slot (value_of v)

abbrev pub sheet_of : DartelmFields → Sheet
sheet_of f = record { template = template_by f.is_resistance; fields = map slot_of f.values; end_bit = yes f.end_bit; level = level_of f.level }
