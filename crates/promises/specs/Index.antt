-- Document 02, Note 2: an index beside the image. A field fetched through it is the field
-- read straight, its offsets rise, and no one-field change or commit makes it wrong.
use Rattle.std.specs.Prelude.{◌≡◌, List, ℕ, suc, ◌≤◌, ◌<◌, length}
use Rattle.refusal.specs.declared.Refusal.{Refusal}
use Rattle.refusal.specs.Outcome.{Outcome, Ok, Err, ◌>>=◌}
use Rattle.memory.specs.Bits.{Bytes}
use Rattle.memory.specs.Image.{image_sizes, sums}
use Rattle.layout.specs.Contents.{Contents}
use Rattle.layout.specs.Image.{contents}
use Rattle.sheet.specs.Check.{read_field}
use Rattle.index.specs.Index.{entries, entry_bytes, entry_at, index, fetch}
use Rattle.promises.specs.Alterations.{Alteration, RealAlterations, altered}

-- ---- fetched as read

-- "A field fetched through the index of its own image equals the field read straight": the same
-- value, and 8 for a number that no field has. The index may be in any buffer that is long enough.
abbrev pub FetchedAsRead : Type 0
FetchedAsRead =
    (kind : ℕ) (image buffer made : List ℕ) (f : ℕ) → index kind image buffer ≡ Ok made →
    fetch kind image made f ≡ read_field kind image f

-- 1, 17 and 2, which a fetch tests as a check does.
abbrev pub page_check : ℕ → List ℕ → Outcome (Unit {0})
page_check kind image = do
  z ← image_sizes kind (length image)
  sums z image

-- If 1, 17 or 2 refuses an image, a fetch and a read are refused alike, whatever the index holds.
-- An image that a check refuses later, for its stream (3 to 7, 22, 24 or 25), has no index.
abbrev pub RefusedAlike : Type 0
RefusedAlike =
    (kind : ℕ) (image made : List ℕ) (f : ℕ) (r : Refusal) → page_check kind image ≡ Err r →
    (fetch kind image made f ≡ Err r) × (read_field kind image f ≡ Err r)

-- ---- sorted by offset

-- Each entry of an index begins before the next one.
abbrev pub IndexSorted : Type 0
IndexSorted =
    (kind : ℕ) (image buffer made : List ℕ) (c : Contents) (i : ℕ) → contents kind image ≡ Ok c → index kind image buffer ≡ Ok made →
    suc i < length (entries c) → (entry_at made i).offset < (entry_at made (suc i)).offset

-- ---- its bytes

-- 480 bytes hold any index: 4 for each of template 33's 21 fields
-- and of the 99 points that the largest chip then has room for.
abbrev pub IndexFits : Type 0
IndexFits = (kind : ℕ) (image : List ℕ) (c : Contents) → contents kind image ≡ Ok c → length (entry_bytes (entries c)) ≤ 480

-- ---- after changes and commits

-- "After a one-field change the old index is still the right one". After
-- any list of changes and commits, accepted or refused, it is the same,
-- byte for byte. If none could be made, none can, for the same reason.
abbrev pub IndexKept : Type 0
IndexKept =
    (kind : ℕ) (image buffer : List ℕ) (alterations : List Alteration) → Bytes image → RealAlterations alterations →
    index kind (altered image alterations) buffer ≡ index kind image buffer

-- A field fetched through the old index is the field read straight from the changed image.
abbrev pub FetchedAfterChanges : Type 0
FetchedAfterChanges =
    (kind : ℕ) (image buffer made : List ℕ) (alterations : List Alteration) (f : ℕ) → Bytes image → RealAlterations alterations →
    index kind image buffer ≡ Ok made →
    fetch kind (altered image alterations) made f ≡ read_field kind (altered image alterations) f
