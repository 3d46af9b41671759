-- Document 01, demand 2: the value that reads back after
-- storing, for any width, start and step together.
use Rattle.std.specs.Prelude.{◌≡◌, cond, List, [], ◌∷◌, ℕ, suc, ◌+◌, ◌*◌, ◌^◌, ◌≤◌, ◌<◌, T, ℤ, pos, nat_abs, ◌-ℤ◌, ◌≤ℤ◌, ◌<ℤ◌}
use Rattle.std.specs.Float.{binary32}
use Rattle.std.specs.Float.Ieee.{fits}
use Rattle.refusal.specs.Outcome.{Ok, Err}
use Rattle.refusal.specs.declared.Refusal.TheVariants.{OutOfRange}
use Rattle.codes.specs.declared.Value.{Value}
use Rattle.codes.specs.declared.Value.TheVariants.{Whole, Single, Missing}
use Rattle.codes.specs.declared.Scale.{Scale}
use Rattle.codes.specs.declared.Rule.{Rule}
use Rattle.codes.specs.declared.Rule.TheVariants.{Plain, Stepped, Geometric, Single as Ieee}
use Rattle.codes.specs.declared.Row.{Row}
use Rattle.codes.specs.Rules.{top_code, stepped_value, stepped_code, progression, scale_width, geometric_value, goes_up, stored_at, decode, encode}

-- A stepped or geometric figure at the nearest value of its rule; any other value unchanged.
abbrev pub kept_by : Rule → ℕ → Value → Value
kept_by (Plain least greatest) w (Whole z) = Whole z
kept_by (Stepped start step) w (Whole z) = Whole (stepped_value start step (stepped_code start step z))
kept_by (Geometric scale) w (Whole z) =
    let value = geometric_value (progression scale) in Whole (pos (value (stored_at value (top_code w) (nat_abs z))))
kept_by Ieee w (Whole z) = Whole z
kept_by rule w (Single x) = Single x
kept_by rule w Missing = Missing

unfoldable pub kept : Row → Value → Value
kept row v = kept_by row.rule row.width v

-- A value that a caller can pass: its Single is an f32.
abbrev pub Real : Value → Type 0
Real (Whole z) = Unit {0}
Real (Single x) = T (fits binary32 x)
Real Missing = Unit {0}

-- A sound row: 1 to 32 bits, its codes fit them, all
-- ones has one meaning, and its figures fit 64 bits.
abbrev pub SoundRule : Rule → Row → Type 0
SoundRule (Plain least greatest) row = (least ≤ greatest) × (greatest + cond row.missing 1 0 < 2 ^ row.width)
SoundRule (Stepped start step) row = (0 < step) × (1 < row.width) × (nat_abs start < 2 ^ 62) × (step * 2 ^ row.width < 2 ^ 62)
SoundRule (Geometric scale) row = row.width ≡ scale_width scale
SoundRule Ieee row = row.width ≡ 32

pub record Sound (row : Row) : Type 0 where
  pub some : 1 ≤ row.width
  pub most : row.width ≤ 32
  pub rules : SoundRule row.rule row

-- Every row of every template, whatever the choice,
-- of the calibration table and of a curve is sound.
abbrev pub AllSound : List Row → Type 0
AllSound [] = Unit {0}
AllSound (row ∷ rows) = Sound row × AllSound rows

-- ---- for any row

-- A stored value reads back as the rule keeps it.
abbrev pub ReadsBack : Type 0
ReadsBack =
    (row : Row) (place at code : ℕ) (v : Value) → Sound row → Real v →
    encode row place v ≡ Ok code → (code < 2 ^ row.width) × (decode row at code ≡ Ok (kept row v))

-- A value read from a code is stored at that code again.
abbrev pub StoredAgain : Type 0
StoredAgain =
    (row : Row) (place at code : ℕ) (v : Value) → Sound row → code < 2 ^ row.width →
    decode row at code ≡ Ok v → encode row place v ≡ Ok code

-- ---- stepped, for any width, start and step

-- A figure moves by at most half a step, and by exactly half only upward.
pub record Nearest (step : ℕ) (z y : ℤ) : Type 0 where
  pub near : 2 * nat_abs (y -ℤ z) ≤ step
  pub below : y <ℤ z → 2 * nat_abs (y -ℤ z) < step

abbrev pub SteppedNearest : Type 0
SteppedNearest =
    (row : Row) (start : ℤ) (step place code : ℕ) (z : ℤ) → row.rule ≡ Stepped start step → 0 < step →
    encode row place (Whole z) ≡ Ok code → Nearest step z (stepped_value start step code)

-- Stepped codes rise with their figures.
abbrev pub SteppedRises : Type 0
SteppedRises =
    (row : Row) (start : ℤ) (step place c d : ℕ) (y z : ℤ) → row.rule ≡ Stepped start step → 0 < step → y ≤ℤ z →
    encode row place (Whole y) ≡ Ok c → encode row place (Whole z) ≡ Ok d → c ≤ d

-- A figure from the lowest to the highest value is stored; outside it is refused with 10.
abbrev pub SteppedRange : Type 0
SteppedRange =
    (row : Row) (start : ℤ) (step place : ℕ) (z : ℤ) → row.rule ≡ Stepped start step →
    (start ≤ℤ z → z ≤ℤ stepped_value start step (top_code row.width) → encode row place (Whole z) ≡ Ok (stepped_code start step z)) ×
    (z <ℤ start → encode row place (Whole z) ≡ Err (OutOfRange place)) ×
    (stepped_value start step (top_code row.width) <ℤ z → encode row place (Whole z) ≡ Err (OutOfRange place))

-- ---- geometric, for any rising table

-- The values of codes 0 to n are above 0 and rise strictly.
pub record Rising (value : ℕ → ℕ) (n : ℕ) : Type 0 where
  pub positive : 0 < value 0
  pub rises : (c : ℕ) → c < n → value c < value (suc c)

-- The values of every scale rise.
abbrev pub ValuesRise : Type 0
ValuesRise = (scale : Scale) → Rising (geometric_value (progression scale)) (top_code (scale_width scale))

-- Each value is the unit nearest to the exact power: v − 1/2 ≤ num / den < v + 1/2, multiplied out.
pub record NearestUnit (num den v : ℕ) : Type 0 where
  pub low : 2 * (v * den) ≤ 2 * num + den
  pub high : 2 * num < 2 * (v * den) + den

abbrev pub ValuesNearest : Type 0
ValuesNearest =
    (scale : Scale) (code : ℕ) →
    let g = progression scale in NearestUnit (g.start * (g.parts + 2 * g.tolerance) ^ code) (g.parts ^ code) (geometric_value g code)

-- A figure between two neighbours goes to one of them, by the storing rule.
abbrev pub GeometricBetween : Type 0
GeometricBetween =
    (value : ℕ → ℕ) (n c w : ℕ) → Rising value n → c < n → value c ≤ w → w ≤ value (suc c) →
    stored_at value n w ≡ cond (goes_up (value c) (value (suc c)) w) (suc c) c

-- Geometric codes rise with their figures.
abbrev pub GeometricRises : Type 0
GeometricRises = (value : ℕ → ℕ) (n v w : ℕ) → Rising value n → v ≤ w → stored_at value n v ≤ stored_at value n w

-- A value of the table is stored at its own code.
abbrev pub GeometricOwn : Type 0
GeometricOwn = (value : ℕ → ℕ) (n c : ℕ) → Rising value n → c ≤ n → stored_at value n (value c) ≡ c

-- Document 02, Note 4, of the values a and b of codes c and
-- c + 1: "to b if w × w is at least a × b, otherwise to a".
abbrev pub GeometricByRatio : Type 0
GeometricByRatio =
    (value : ℕ → ℕ) (n c w : ℕ) → Rising value n → c < n → value c ≤ w → w ≤ value (suc c) →
    (value c * value (suc c) ≤ w * w → stored_at value n w ≡ suc c) ×
    (w * w < value c * value (suc c) → stored_at value n w ≡ c)

-- Every figure from the least to the greatest value is between two neighbours.
abbrev pub GeometricCovers : Type 0
GeometricCovers =
    (value : ℕ → ℕ) (n w : ℕ) → 0 < n → value 0 ≤ w → w ≤ value n →
    (c : ℕ) × ((c < n) × (value c ≤ w) × (w ≤ value (suc c)))
