-- Only inner contracts need this: a table that code holds or passes.
use Rattle.std.specs.Prelude.{◌≡◌, List, ℕ, suc, ◌-◌, ◌≤◌, ◌<◌, length, get_or}
use Rattle.codes.specs.declared.Scale.{Scale}
use Rattle.codes.specs.Rules.{progression, scale_width, top_code, geometric_value}
use Rattle.codes.specs.Stored.{Rising}

-- The entries as the values of codes.
unfoldable pub listed : List ℕ → ℕ → ℕ
listed table code = get_or table code 0

-- A table that is not empty and whose entries rise.
pub record RisingList (table : List ℕ) : Type 0 where
  pub some : 0 < length table
  pub rising : Rising (listed table) (length table - 1)

-- The table of a scale: an entry for each code, which is the value of that code.
pub record TableOf (scale : Scale) (table : List ℕ) : Type 0 where
  pub long : length table ≡ suc (top_code (scale_width scale))
  pub entry : (code : ℕ) → code ≤ top_code (scale_width scale) → listed table code ≡ geometric_value (progression scale) code
