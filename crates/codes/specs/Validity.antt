-- Only inner contracts need this: whether a row can hold a code.
use Rattle.std.specs.Prelude.{◌≡◌, not, ℕ, ◌^◌, ◌<◌, eqb}
use Rattle.std.specs.Float.{binary32}
use Rattle.std.specs.Float.Ieee.{of_bits}
use Rattle.refusal.specs.Outcome.{Outcome, Ok, ◌>>◌, refuse◌if◌}
use Rattle.refusal.specs.declared.Refusal.TheVariants.{OutsideTable, NotFinite}
use Rattle.codes.specs.declared.Row.{Row}
use Rattle.codes.specs.Rules.{all_ones, finite, meaning, decode}

-- The decoding of a code, without its value.
abbrev pub judge : Row → ℕ → ℕ → Outcome (Unit {0})
judge row at code = decode row at code >> Ok tt

-- The rule's own test of a code, even if the row calls it missing.
abbrev pub ruled : Row → ℕ → ℕ → Outcome (Unit {0})
ruled row at code = meaning row.rule row.width at code >> Ok tt

-- The test of a Single's bits.
abbrev pub single_ruled : ℕ → ℕ → Outcome (Unit {0})
single_ruled at code = do
  refuse OutsideTable at if eqb code (all_ones 32)
  refuse NotFinite at if not (finite (of_bits binary32 code))

-- The row can hold every code of its bits.
abbrev pub Open : Row → Type 0
Open row = (at code : ℕ) → code < 2 ^ row.width → judge row at code ≡ Ok tt
