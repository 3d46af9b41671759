-- Document 02, Note 6: who may write what.
use Rattle.refusal.specs.Rows.{row_number}
use Rattle.std.specs.Prelude.{◌≡◌, false, cond, List, [], ◌∷◌, ℕ, suc, ◌≤◌, length}
use Rattle.refusal.specs.declared.Refusal.{Refusal}
use Rattle.refusal.specs.Outcome.{Outcome, Ok, Err, ◌>>◌, ◌>>=◌, refuse◌if◌}
use Rattle.refusal.specs.Written.{afterwards}
use Rattle.refusal.specs.declared.Refusal.TheVariants.{ChangedAlone, LevelTooLow}
use Rattle.codes.specs.declared.Value.{Value}
use Rattle.templates.specs.declared.Level.{Level}
use Rattle.templates.specs.declared.Level.TheVariants.{Owner, CalibrationRoom, Maker}
use Rattle.templates.specs.declared.Template.{Template}
use Rattle.templates.specs.declared.Template.TheVariants.{Bridge, Resistance}
use Rattle.codes.specs.Rules.{encode}
use Rattle.templates.specs.Lines.{Line, lines_of, line_of}
use Rattle.templates.specs.Levels.{may_write, rank}
use Rattle.layout.specs.Contents.{Contents}
use Rattle.layout.specs.Image.{contents, numbered}
use Rattle.build.specs.declared.Sheet.{Sheet}
use Rattle.build.specs.Build.{Table, build_with}
use Rattle.change.specs.Change.{rewritten, change, propose, commit}

-- ---- the fields that a level writes

-- The fields of lines from field f on that a level may write.
abbrev pub written_from : Level → ℕ → List Line → List ℕ
written_from level f [] = []
written_from level f (line ∷ lines) =
    let rest = written_from level (suc f) lines in
    cond line.sets rest (cond (may_write level line.mark) (f ∷ rest) rest)

abbrev pub written_by : Level → Template → List ℕ
written_by level template = written_from level 1 (lines_of template)

-- "An owner changes field 21; a calibration room also 7, 8, 10, 11, 18, 19 and 20"; a maker every
-- field that can be changed alone. For template 32 "Writer's levels follow the marks in Annex A".
pub record FieldsOfLevels : Type 0 where
  pub owner : written_by Owner Bridge ≡ (21 ∷ [])
  pub calibration_room : written_by CalibrationRoom Bridge ≡ (7 ∷ 8 ∷ 10 ∷ 11 ∷ 18 ∷ 19 ∷ 20 ∷ 21 ∷ [])
  pub maker : written_by Maker Bridge ≡ (1 ∷ 2 ∷ 3 ∷ 4 ∷ 5 ∷ 6 ∷ 7 ∷ 8 ∷ 10 ∷ 11 ∷ 12 ∷ 13 ∷ 14 ∷ 15 ∷ 16 ∷ 17 ∷ 18 ∷ 19 ∷ 20 ∷ 21 ∷ [])
  pub resistance_owner : written_by Owner Resistance ≡ (19 ∷ [])
  pub resistance_room : written_by CalibrationRoom Resistance ≡ (7 ∷ 8 ∷ 10 ∷ 11 ∷ 14 ∷ 16 ∷ 17 ∷ 18 ∷ 19 ∷ [])
  pub resistance_maker : written_by Maker Resistance ≡ (1 ∷ 2 ∷ 3 ∷ 4 ∷ 5 ∷ 6 ∷ 7 ∷ 8 ∷ 10 ∷ 11 ∷ 12 ∷ 13 ∷ 14 ∷ 15 ∷ 16 ∷ 17 ∷ 18 ∷ 19 ∷ [])

-- ---- the maker

-- A change without the test of levels. Order: check, 8, 12, 9, 10.
unfoldable pub change_as_before : ℕ → List ℕ → ℕ → Value → Outcome (List ℕ)
change_as_before kind image f value = do
  c ← contents kind image
  x ← numbered c f
  refuse ChangedAlone f if (line_of c.template f).sets
  code ← encode x.row f value
  rewritten kind image x code

-- "For the maker, the outcome of a change is the old one": number, place and bytes.
abbrev pub MakerAsBefore : Type 0
MakerAsBefore = (kind : ℕ) (image : List ℕ) (f : ℕ) (v : Value) → change kind image Maker f v ≡ change_as_before kind image f v

-- ---- the other levels

-- A field that a level may not write is refused with 20,
-- whatever the value and the codes, and nothing is written.
pub record RefusedTo (level : Level) (kind : ℕ) (image : List ℕ) (f : ℕ) : Type 0 where
  pub changed : (v : Value) → change kind image level f v ≡ Err (LevelTooLow f)
  pub proposed : (v : Value) → propose kind image level f v ≡ Err (LevelTooLow f)
  pub committed : (present new : ℕ) → commit kind image level f present new ≡ Err (LevelTooLow f)
  pub changed_bytes : (v : Value) → afterwards image (change kind image level f v) ≡ image
  pub committed_bytes : (present new : ℕ) → afterwards image (commit kind image level f present new) ≡ image

abbrev pub LowerRefused : Type 0
LowerRefused =
    (level : Level) (kind : ℕ) (image : List ℕ) (c : Contents) (f : ℕ) → contents kind image ≡ Ok c → 1 ≤ f → f ≤ length c.fields →
    (line_of c.template f).sets ≡ false → may_write level (line_of c.template f).mark ≡ false → RefusedTo level kind image f

-- A field that can be changed alone, of an accepted image, but not by this level.
pub record NotHeld (level : Level) (kind : ℕ) (image : List ℕ) (f : ℕ) : Type 0 where
  pub holds : Contents
  pub accepted : contents kind image ≡ Ok holds
  pub first : 1 ≤ f
  pub last : f ≤ length holds.fields
  pub alone : (line_of holds.template f).sets ≡ false
  pub held : may_write level (line_of holds.template f).mark ≡ false

-- 20 is returned in no other case: with `LowerRefused`,
-- exactly if the level may not write the field.
pub record TwentyOnlyThere (level : Level) (kind : ℕ) (image : List ℕ) (f : ℕ) (r : Refusal) : Type 0 where
  pub changed : (v : Value) → change kind image level f v ≡ Err r → NotHeld level kind image f
  pub proposed : (v : Value) → propose kind image level f v ≡ Err r → NotHeld level kind image f
  pub committed : (present new : ℕ) → commit kind image level f present new ≡ Err r → NotHeld level kind image f

abbrev pub RefusedOnlyThere : Type 0
RefusedOnlyThere = (level : Level) (kind : ℕ) (image : List ℕ) (f : ℕ) (r : Refusal) → (row_number r) ≡ 20 → TwentyOnlyThere level kind image f r

-- What a level may write, every higher one may write too, to the same bytes.
pub record HigherMayToo (low high : Level) : Type 0 where
  pub changes : (kind : ℕ) (image after : List ℕ) (f : ℕ) (v : Value) → change kind image low f v ≡ Ok after → change kind image high f v ≡ Ok after
  pub commits : (kind : ℕ) (image after : List ℕ) (f present new : ℕ) → commit kind image low f present new ≡ Ok after → commit kind image high f present new ≡ Ok after

abbrev pub LevelsNest : Type 0
LevelsNest = (low high : Level) → rank low ≤ rank high → HigherMayToo low high

-- ---- a build

abbrev pub at_level : Level → Sheet → Sheet
at_level level sheet = record { template = sheet.template; fields = sheet.fields; end_bit = sheet.end_bit; level = level }

-- "a build tests none": at every level its outcome is the same.
abbrev pub BuildAsksNoLevel : Type 0
BuildAsksNoLevel =
    (level : Level) (kind : ℕ) (buffer : List ℕ) (sheet : Sheet) (text : List ℕ) (table : Table) →
    build_with kind buffer (at_level level sheet) text table ≡ build_with kind buffer sheet text table
