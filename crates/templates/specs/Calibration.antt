-- Document 01, "Layout", and document 02, Note 9: the calibration table,
-- template 40. The rows of its fields, in billionths of the span, and
-- the rules between neighbouring pairs, for checks and builds.
use Rattle.std.specs.Prelude.{Bool, true, false, ◌&&◌, ℕ, zero, suc, leb, ℤ, pos, neg_ℤ, ◌+ℤ◌}
use Rattle.std.specs.Prelude.{Option, None, Some}
use Rattle.std.specs.Int.Signed.{le_z}
use Rattle.refusal.specs.Outcome.{Outcome, Ok, ◌>>◌, refuse◌if◌}
use Rattle.refusal.specs.declared.Refusal.TheVariants.{NotRising, SumsNotRising}
use Rattle.codes.specs.declared.Rule.TheVariants.{Plain, Stepped}
use Rattle.codes.specs.declared.Row.{Row}
use Rattle.templates.specs.declared.Pair.{Pair}
use Rattle.templates.specs.declared.Codes.{Codes}
use Rattle.templates.specs.declared.Domain.{Domain}
use Rattle.templates.specs.declared.Domain.TheVariants.{Electrical, Physical}
use Rattle.codes.specs.Rules.{stepped_value}
use Rattle.templates.specs.Rows.{always}

-- The steps D and R: 0.00153 % and 0.0001 % (document 000, 7.3.4 and B.5.2.1).
abbrev pub D : ℕ
D = 15_300

abbrev pub R : ℕ
R = 1_000

abbrev pub least_deviation : ℤ
least_deviation = neg_ℤ (pos 1_000_000_000)

-- The domain: 0, deviations against the electrical figure; 1, against the physical one.
abbrev pub cal_domain : Row
cal_domain = always 1 (Plain 0 1)

abbrev pub domain_code : Domain → ℕ
domain_code Electrical = 0
domain_code Physical = 1

abbrev pub domain_of : ℕ → Domain
domain_of zero = Electrical
domain_of (suc n) = Physical

abbrev pub is_physical : Domain → Bool
is_physical Electrical = false
is_physical Physical = true

-- "count n 7 bits (1 to 127)"
abbrev pub point_count : Row
point_count = always 7 (Plain 1 127)

-- A calibration point (16 bits), and its deviation (21 bits), "both stepped".
abbrev pub cal_point : Row
cal_point = always 16 (Stepped (pos 0) D)

abbrev pub cal_deviation : Row
cal_deviation = always 21 (Stepped least_deviation R)

-- The pair in place of one that is not there.
abbrev pub no_pair : Pair
no_pair = record { point = pos 0; deviation = pos 0 }

-- The two codes of a pair.
abbrev pub codes_of : ℕ → ℕ → Codes
codes_of point deviation = record { point = point; deviation = deviation }

-- The point plus the deviation of a pair, as stored.
abbrev pub stored_sum : Codes → ℤ
stored_sum c = stepped_value (pos 0) D c.point +ℤ stepped_value least_deviation R c.deviation

-- Rows 7 and 22, of a pair after the one before it, if there is one. "Points rise strictly",
-- as codes; in domain 1 "Points plus deviations, as stored, must rise strictly" too.
unfoldable pub follows : Domain → Option Codes → ℕ → Codes → Outcome (Unit {0})
follows domain None place next = Ok tt
follows domain (Some before) place next = do
  refuse NotRising place if leb next.point before.point
  refuse SumsNotRising place if is_physical domain && le_z (stored_sum next) (stored_sum before)
