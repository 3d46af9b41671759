-- Document 01, "Layout", and document 02, Notes 4 and 7: stepped, geometric,
-- Single. What a code means, and the code that a value is stored at, for any
-- width, start and step. Single and missing are document 01's terms.
use Rattle.std.specs.Prelude.{Bool, true, false, not, ◌||◌, ◌&&◌, cond, ℕ, zero, suc, ◌+◌, ◌-◌, ◌*◌, ◌^◌, eqb, leb, ltb, ℤ, pos, nat_abs, ◌+ℤ◌, ◌-ℤ◌, Float}
use Rattle.std.specs.Int.Signed.{lt_z}
use Rattle.std.specs.Float.{nan, inf, fin, binary32}
use Rattle.std.specs.Float.Ieee.{of_bits, to_bits}
use Rattle.integers.specs.Nearest.{◌over◌, nearest}
use Rattle.refusal.specs.Outcome.{Outcome, Ok, Err, ◌>>◌, refuse◌if◌}
use Rattle.refusal.specs.declared.Refusal.TheVariants.{OutsideTable, NotFinite, WrongSort, OutOfRange}
use Rattle.codes.specs.declared.Value.{Value}
use Rattle.codes.specs.declared.Value.TheVariants.{Whole, Single, Missing}
use Rattle.codes.specs.declared.Scale.{Scale}
use Rattle.codes.specs.declared.Scale.TheVariants.{ResponseTime, Current}
use Rattle.codes.specs.declared.Rule.{Rule}
use Rattle.codes.specs.declared.Rule.TheVariants.{Plain, Stepped, Geometric, Single as Ieee}
use Rattle.codes.specs.declared.Row.{Row}

-- All ones in w bits.
abbrev pub all_ones : ℕ → ℕ
all_ones w = 2 ^ w - 1

-- The greatest code that has a value: "all ones less one".
abbrev pub top_code : ℕ → ℕ
top_code w = 2 ^ w - 2

-- "Stepped: value = start + step × code".
abbrev pub stepped_value : ℤ → ℕ → ℕ → ℤ
stepped_value start step code = start +ℤ pos (step * code)

-- A start, and a tolerance as a fraction.
pub record Progression : Type 0 where
  pub start : ℕ
  pub tolerance : ℕ
  pub parts : ℕ

-- Response time: start 1E-6 s in 10 ns, tolerance 0.146 (document 000,
-- templates 33 and 32). Excitation current: start 1e-6 A in tenths of a
-- nanoampere, tolerance 0.02356427402545 (document 000, template 32).
abbrev pub progression : Scale → Progression
progression ResponseTime = record { start = 100; tolerance = 146; parts = 1_000 }
progression Current = record { start = 10_000; tolerance = 2_356_427_402_545; parts = 100_000_000_000_000 }

-- The bits of a scale's codes.
abbrev pub scale_width : Scale → ℕ
scale_width ResponseTime = 6
scale_width Current = 8

-- Geometric: code c means "start × (1 + 2 × tolerance)^c to the nearest unit, halves upward".
unfoldable pub geometric_value : Progression → ℕ → ℕ
geometric_value g code = nat_abs (nearest (pos (g.start * (g.parts + 2 * g.tolerance) ^ code) over g.parts ^ code))

-- The float is neither infinite nor NaN.
abbrev pub finite : Float → Bool
finite nan = false
finite (inf sign) = false
finite (fin sign m e) = true

-- ---- what a code means

abbrev pub meaning : Rule → ℕ → ℕ → ℕ → Outcome Value
meaning (Plain least greatest) w at code = do
  refuse OutsideTable at if ltb code least || ltb greatest code
  Ok (Whole (pos code))
meaning (Stepped start step) w at code = do
  refuse OutsideTable at if ltb (top_code w) code
  Ok (Whole (stepped_value start step code))
meaning (Geometric scale) w at code = do
  refuse OutsideTable at if ltb (top_code w) code
  Ok (Whole (pos (geometric_value (progression scale) code)))
meaning Ieee w at code = do
  refuse OutsideTable at if eqb code (all_ones w)
  refuse NotFinite at if not (finite (of_bits binary32 code))
  Ok (Single (of_bits binary32 code))

-- The value of a code in a field whose first bit is `at`. All ones is missing
-- if the row allows it; else 5 or 6 if the rule gives the code no value.
unfoldable pub decode : Row → ℕ → ℕ → Outcome Value
decode row at code = cond (row.missing && eqb code (all_ones row.width)) (Ok Missing) (meaning row.rule row.width at code)

-- ---- the code that a value is stored at

abbrev pub outside : ℤ → ℤ → ℤ → Bool
outside lowest highest figure = lt_z figure lowest || lt_z highest figure

-- A stepped figure is stored "at the nearest code, halves upward".
abbrev pub stepped_code : ℤ → ℕ → ℤ → ℕ
stepped_code start step figure = nat_abs (nearest (figure -ℤ start over step))

-- Geometric, the storing rule of document 02, Note 4. A figure w between the values
-- a and b of neighbouring codes "goes to b if w × w is at least a × b, otherwise to
-- a". Only the code's own test and `proofs/StoringRule.antt` unfold it.
unfoldable pub goes_up : ℕ → ℕ → ℕ → Bool
goes_up a b w = leb (a * b) (w * w)

-- Of codes 0 to n, the last that the figure goes up to; 0 if there is none.
unfoldable pub stored_at : (ℕ → ℕ) → ℕ → ℕ → ℕ
stored_at value zero w = zero
stored_at value (suc n) w = cond (goes_up (value n) (value (suc n)) w) (suc n) (stored_at value n w)

-- A whole figure from the lowest to the highest value has
-- a code; 10 outside, 9 if the rule takes no whole number.
abbrev pub whole_code : Rule → ℕ → ℕ → ℤ → Outcome ℕ
whole_code (Plain least greatest) w place figure = do
  refuse OutOfRange place if outside (pos least) (pos greatest) figure
  Ok (nat_abs figure)
whole_code (Stepped start step) w place figure = do
  refuse OutOfRange place if outside start (stepped_value start step (top_code w)) figure
  Ok (stepped_code start step figure)
whole_code (Geometric scale) w place figure =
    let value = geometric_value (progression scale) in do
      refuse OutOfRange place if outside (pos (value 0)) (pos (value (top_code w))) figure
      Ok (stored_at value (top_code w) (nat_abs figure))
whole_code Ieee w place figure = Err (WrongSort place)

-- A Single is stored as its bits; 10 if it is not finite, 9 if the rule takes no Single.
abbrev pub single_code : Rule → ℕ → Float → Outcome ℕ
single_code (Plain least greatest) place x = Err (WrongSort place)
single_code (Stepped start step) place x = Err (WrongSort place)
single_code (Geometric scale) place x = Err (WrongSort place)
single_code Ieee place x = do
  refuse OutOfRange place if not (finite x)
  Ok (to_bits binary32 x)

-- Rows 9 and 10, at the place that the call passes.
unfoldable pub encode : Row → ℕ → Value → Outcome ℕ
encode row place (Whole figure) = whole_code row.rule row.width place figure
encode row place (Single x) = single_code row.rule place x
encode row place Missing = do
  refuse WrongSort place if not row.missing
  Ok (all_ones row.width)
