-- Document 01, "Turning down": "A number is returned only in its
-- row's case". Every call refuses by a row that its order names, so
-- that no call returns 0 for a refusal, nor 15 (document 02, Note 8).
use Rattle.std.specs.Prelude.{◌≡◌, List, [], ◌∷◌, ℕ, ℤ}
use Rattle.refusal.specs.Orders.{occurs, By, check_order, read_order, text_order, change_order, commit_order, index_order, fetch_order, reading_order, compare_order, build_order, curve_order, distance_order, orders}
use Rattle.codes.specs.declared.Value.{Value}
use Rattle.templates.specs.declared.Level.{Level}
use Rattle.templates.specs.declared.Domain.{Domain}
use Rattle.templates.specs.declared.Curve.{Curve}
use Rattle.texts.specs.Text.{text_of, code_of}
use Rattle.sheet.specs.Check.{check, read_field, read_pair, read_character, read_segment, read_term}
use Rattle.index.specs.Index.{index, fetch}
use Rattle.change.specs.Change.{change, propose, commit}
use Rattle.build.specs.declared.Sheet.{Sheet}
use Rattle.build.specs.Build.{build, build_curve}
use Rattle.distance.specs.Distance.{distance}
use Rattle.reading.specs.declared.Dash.{Dash}
use Rattle.reading.specs.Reading.{take_reading}
use Rattle.recordings.specs.Recordings.{compare}

-- The calls that do not alter the image.
pub record ReadsByOrder (kind : ℕ) (image : List ℕ) : Type 0 where
  pub checks : By check_order (check kind image)
  pub fields : (f : ℕ) → By read_order (read_field kind image f)
  pub pairs : (i : ℕ) → By read_order (read_pair kind image i)
  pub characters : (i : ℕ) → By read_order (read_character kind image i)
  pub segments : (i : ℕ) → By read_order (read_segment kind image i)
  pub terms : (i : ℕ) → By read_order (read_term kind image i)
  pub indexes : (buffer : List ℕ) → By index_order (index kind image buffer)
  pub fetches : (entries : List ℕ) (f : ℕ) → By fetch_order (fetch kind image entries f)
  pub readings : (v : ℤ) (dash : Dash) → By reading_order (take_reading kind image v dash)
  pub compares : (slow fast : List ℤ) → By compare_order (compare kind image slow fast)

-- The calls that alter it.
pub record WritesByOrder (kind : ℕ) (image : List ℕ) : Type 0 where
  pub changes : (level : Level) (f : ℕ) (v : Value) → By change_order (change kind image level f v)
  pub proposes : (level : Level) (f : ℕ) (v : Value) → By change_order (propose kind image level f v)
  pub commits : (level : Level) (f present new : ℕ) → By commit_order (commit kind image level f present new)
  pub builds : (sheet : Sheet) (text : List ℕ) (domain : Domain) (points : List ℤ) → By build_order (build kind image sheet text domain points)
  pub builds_curves : (sheet : Sheet) (text : List ℕ) (curve : Curve) → By curve_order (build_curve kind image sheet text curve)

-- For any kind and bytes that are lent.
pub record RefusedByOrder : Type 0 where
  pub reads : (kind : ℕ) (image : List ℕ) → ReadsByOrder kind image
  pub writes : (kind : ℕ) (image : List ℕ) → WritesByOrder kind image
  pub texts : (field code : ℕ) → By text_order (text_of field code)
  pub codes : (field : ℕ) (text : List ℕ) → By text_order (code_of field text)
  pub distances : (points : List ℤ) → By distance_order (distance points)

-- A number that no order has.
abbrev pub InNone : ℕ → List (List ℕ) → Type 0
InNone n [] = Unit {0}
InNone n (rows ∷ others) = (occurs n rows ≡ 0) × InNone n others

-- No refusal has the number 0, which would mean accepted.
abbrev pub NeverZero : Type 0
NeverZero = InNone 0 orders

-- Refusal 15 never occurs.
abbrev pub NeverFifteen : Type 0
NeverFifteen = InNone 15 orders
