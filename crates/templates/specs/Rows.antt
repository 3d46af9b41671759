-- Document 01, "Layout", and document 02, Note 7: the rows of the table
-- of fields. Starts and steps are those of the template lines of document
-- 000, Annex A. `Lines` puts the rows in the order of the stream.
use Rattle.std.specs.Prelude.{true, false, ℕ, zero, suc, pos, neg_ℤ}
use Rattle.codes.specs.declared.Scale.TheVariants.{ResponseTime, Current}
use Rattle.codes.specs.declared.Rule.{Rule}
use Rattle.codes.specs.declared.Rule.TheVariants.{Plain, Stepped, Geometric, Single as Ieee}
use Rattle.codes.specs.declared.Row.{Row}
use Rattle.codes.specs.Rules.{all_ones}

-- A row in which no code means missing, and one in which all ones means missing.
abbrev pub always : ℕ → Rule → Row
always width rule = record { width = width; rule = rule; missing = false }

abbrev pub optional : ℕ → Rule → Row
optional width rule = record { width = width; rule = rule; missing = true }

-- "any": every code is a value, all ones too.
abbrev pub any : ℕ → Row
any width = always width (Plain 0 (all_ones width))

-- ---- Basic TEDS

-- 1 maker: manufacturer ID.
abbrev pub manufacturer_id : Row
manufacturer_id = always 14 (Plain 17 16_381)

-- 2 model: model number.
abbrev pub model_number : Row
model_number = any 15

-- 3 letter: version letter, A to Z.
abbrev pub version_letter : Row
version_letter = always 5 (Plain 1 26)

-- 4 version: version number.
abbrev pub version_number : Row
version_number = any 6

-- 5 serial: serial number.
abbrev pub serial_number : Row
serial_number = any 24

-- ---- both templates

-- 6 measurand: physical measurand.
abbrev pub measurand : Row
measurand = always 6 (Plain 0 45)

-- 7, 8 least and greatest physical: min_phys_val, max_phys_val.
abbrev pub physical : Row
physical = optional 32 Ieee

-- Response, 10 ns: response time.
abbrev pub response_time : Row
response_time = optional 6 (Geometric ResponseTime)

-- Date: calibration date, days since 1 January 1998.
abbrev pub cal_date : Row
cal_date = optional 16 (Plain 0 65_534)

-- Initials: calibration initials, three letters, first lowest.
abbrev pub cal_initials : Row
cal_initials = any 15

-- Period, days: calibration period.
abbrev pub cal_period : Row
cal_period = any 12

-- Location: measurement location ID.
abbrev pub location_id : Row
location_id = any 11

-- ---- template 33

-- 9 precision: full-scale electrical value precision.
abbrev pub bridge_precision : Row
bridge_precision = always 2 (Plain 0 2)

-- 10, 11 least and greatest electrical, nV/V: min_elec_val,
-- max_elec_val, at precision 0, 1 and 2 (a Single in V/V).
abbrev pub bridge_end : ℕ → Row
bridge_end zero = optional 11 (Stepped (neg_ℤ (pos 1_000_000_000)) 1_000_000)
bridge_end (suc zero) = optional 19 (Stepped (neg_ℤ (pos 6_550_000)) 25)
bridge_end (suc (suc p)) = optional 32 Ieee

-- 12 bridge: bridge type; 0 quarter, 1 half, 2 full.
abbrev pub bridge_type : Row
bridge_type = always 2 (Plain 0 2)

-- 13 impedance, 0.1 Ω: bridge element impedance.
abbrev pub impedance : Row
impedance = optional 18 (Stepped (pos 10) 1)

-- 15, 16, 17 excitation nominal, least, greatest, 0.1 V: excitation level.
abbrev pub excitation : Row
excitation = optional 9 (Stepped (pos 1) 1)

-- ---- template 32

-- 9 precision: full-scale electrical value precision; all four codes.
abbrev pub resistance_precision : Row
resistance_precision = any 2

-- 10, 11 least and greatest electrical, Ω: min_elec_val,
-- max_elec_val, at precision 0, 1, 2 and 3 (a Single).
abbrev pub resistance_end : ℕ → Row
resistance_end zero = optional 7 (Stepped (pos 0) 10)
resistance_end (suc zero) = optional 10 (Stepped (pos 0) 1_000)
resistance_end (suc (suc zero)) = optional 16 (Stepped (pos 0) 1)
resistance_end (suc (suc (suc p))) = optional 32 Ieee

-- 12 mapping: mapping method, a numbered choice; all four codes.
abbrev pub mapping_method : Row
mapping_method = any 2

-- 14, 15 current nominal, greatest, tenths of a nanoampere: excitation current.
abbrev pub current : Row
current = optional 8 (Geometric Current)
