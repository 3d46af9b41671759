-- Demand 2 after each change: any list of one-field changes and commits,
-- accepted or refused, by writers of any level. The result is defined on
-- the contents, to compare it with a check of the altered image.
use Rattle.std.specs.Prelude.{◌≡◌, cond, List, [], ◌∷◌, ◌⊎◌, ℕ, ◌+◌, ◌-◌, ◌≤◌, ◌<◌, eqb, length, get_or, set}
use Rattle.refusal.specs.Outcome.{Outcome, Ok, Err, ◌>>◌, ◌>>=◌}
use Rattle.refusal.specs.Written.{afterwards}
use Rattle.memory.specs.declared.Sizes.{Sizes}
use Rattle.memory.specs.Bits.{Bytes, bit}
use Rattle.memory.specs.Image.{image_sizes, page_at, stream_number, page_of}
use Rattle.codes.specs.declared.Value.{Value}
use Rattle.templates.specs.declared.Level.{Level}
use Rattle.codes.specs.Rules.{decode}
use Rattle.codes.specs.Stored.{kept, Real}
use Rattle.layout.specs.Contents.{Found, Contents}
use Rattle.layout.specs.Image.{contents, field}
use Rattle.change.specs.Change.{code_for, change, may_commit, commit}

-- A one-field change as a caller can pass it: its own kind, level, field and value.
pub record Change : Type 0 where
  pub kind : ℕ
  pub level : Level
  pub field : ℕ
  pub value : Value

-- A commit: its own kind, level, field and codes.
pub record Commit : Type 0 where
  pub kind : ℕ
  pub level : Level
  pub field : ℕ
  pub present : ℕ
  pub new : ℕ

pub data Alteration : Type 0 where
  changes : Change → Alteration
  commits : Commit → Alteration

-- A change that a caller can pass: its Single is an f32.
abbrev pub RealAlteration : Alteration → Type 0
RealAlteration (changes ch) = Real ch.value
RealAlteration (commits co) = Unit {0}

abbrev pub RealAlterations : List Alteration → Type 0
RealAlterations [] = Unit {0}
RealAlterations (a ∷ alterations) = RealAlteration a × RealAlterations alterations

-- The image after one alteration, and after a list: a refused one leaves the image unchanged.
abbrev pub changed_by : List ℕ → Change → List ℕ
changed_by image ch = afterwards image (change ch.kind image ch.level ch.field ch.value)

abbrev pub committed_by : List ℕ → Commit → List ℕ
committed_by image co = afterwards image (commit co.kind image co.level co.field co.present co.new)

abbrev pub altered_by : List ℕ → Alteration → List ℕ
altered_by image (changes ch) = changed_by image ch
altered_by image (commits co) = committed_by image co

abbrev pub altered : List ℕ → List Alteration → List ℕ
altered image [] = image
altered image (a ∷ alterations) = altered (altered_by image a) alterations

-- ---- alterations of the contents

-- Field f with a code and a value, all else unchanged.
abbrev pub replaced : Contents → ℕ → ℕ → Value → Contents
replaced c f code v =
    let x = field c f in
    record {
      template = c.template;
      fields = set c.fields (f - 1) (record { row = x.row; at = x.at; code = code; value = v });
      calibration = c.calibration;
      end_bit = c.end_bit;
      text = c.text;
      bits = c.bits;
    }

-- A change stores the value as its rule keeps it.
abbrev pub change_in : Contents → Level → ℕ → Value → Outcome Contents
change_in c level f v = do
  code ← code_for c level f v
  Ok (replaced c f code (kept (field c f).row v))

-- A commit stores its new code, with the value that the code means.
abbrev pub commit_in : Contents → Level → ℕ → ℕ → ℕ → Outcome Contents
commit_in c level f present new = do
  may_commit c level f present new
  v ← decode (field c f).row (field c f).at new
  Ok (replaced c f new v)

-- The contents after a step: a refused one leaves them unchanged.
abbrev pub left : Contents → Outcome Contents → Contents
left c (Ok d) = d
left c (Err r) = c

-- The contents of a sheet of a kind after an alteration:
-- unchanged if the alteration names another kind.
abbrev pub held_by : ℕ → Contents → Alteration → Contents
held_by kind c (changes ch) = cond (eqb ch.kind kind) (left c (change_in c ch.level ch.field ch.value)) c
held_by kind c (commits co) = cond (eqb co.kind kind) (left c (commit_in c co.level co.field co.present co.new)) c

abbrev pub held : ℕ → Contents → List Alteration → Contents
held kind c [] = c
held kind c (a ∷ alterations) = held kind (held_by kind c a) alterations

-- After each of a list the image is accepted, and its
-- contents are what the alterations so far make of them.
abbrev pub AfterAlterations : Type 0
AfterAlterations =
    (kind : ℕ) (image : List ℕ) (c : Contents) (alterations : List Alteration) → Bytes image → RealAlterations alterations →
    contents kind image ≡ Ok c →
    contents kind (altered image alterations) ≡ Ok (held kind c alterations)

-- A change to the value that is already there leaves every byte unchanged.
abbrev pub ChangedToTheSame : Type 0
ChangedToTheSame =
    (kind : ℕ) (image after : List ℕ) (c : Contents) (level : Level) (f : ℕ) → Bytes image →
    contents kind image ≡ Ok c → change kind image level f (field c f).value ≡ Ok after → after ≡ image

-- "A change rewrites the field and the check bytes of its pages, no other bit",
-- and so does a commit. Bits of the stream outside the field stay, and so does
-- every check byte but those of the pages of the field's first and last bit.
pub record AltersNoOther (z : Sizes) (x : Found) (image after : List ℕ) : Type 0 where
  pub stream : (n : ℕ) → (n < x.at) ⊎ (x.at + x.row.width ≤ n) → bit (stream_number z after) n ≡ bit (stream_number z image) n
  pub checks : (q : ℕ) → (q ≡ page_of z x.at → ⊥) → (q ≡ page_of z (x.at + x.row.width - 1) → ⊥) →
      get_or after (page_at z q) 0 ≡ get_or image (page_at z q) 0

abbrev pub ChangeAltersNoOther : Type 0
ChangeAltersNoOther =
    (kind : ℕ) (image after : List ℕ) (z : Sizes) (c : Contents) (level : Level) (f : ℕ) (v : Value) → Bytes image → Real v →
    image_sizes kind (length image) ≡ Ok z → contents kind image ≡ Ok c → change kind image level f v ≡ Ok after →
    AltersNoOther z (field c f) image after

abbrev pub CommitAltersNoOther : Type 0
CommitAltersNoOther =
    (kind : ℕ) (image after : List ℕ) (z : Sizes) (c : Contents) (level : Level) (f present new : ℕ) → Bytes image →
    image_sizes kind (length image) ≡ Ok z → contents kind image ≡ Ok c → commit kind image level f present new ≡ Ok after →
    AltersNoOther z (field c f) image after
