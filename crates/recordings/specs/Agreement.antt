-- Document 02, Note 13: statements of what the answer
-- of a comparison means, in the note's own words.
use Rattle.std.specs.Prelude.{◌≡◌, false, List, [], ◌↔◌, ℕ, ◌*◌, ◌<◌, ℤ, length, get_or}
use Rattle.refusal.specs.Outcome.{Ok}
use Rattle.layout.specs.Contents.{Contents}
use Rattle.layout.specs.Image.{contents}
use Rattle.reading.specs.declared.Reading.{Reading}
use Rattle.reading.specs.declared.Dash.TheVariants.{Large}
use Rattle.reading.specs.Reading.{take_reading}
use Rattle.recordings.specs.declared.Refresh.{Refresh}
use Rattle.recordings.specs.declared.Compared.TheVariants.{Agree, Tick}
use Rattle.recordings.specs.Recordings.{refreshes, never, unlike, compare}

-- A fraction "is the reading of its input from the lent image on the large dash".
pub record Shown (kind : ℕ) (image : List ℕ) (x : Refresh) : Type 0 where
  pub reading : Reading
  pub taken : take_reading kind image x.input Large ≡ Ok reading
  pub is : reading.fraction ≡ x.shown

-- "The recordings agree if paired inputs and fractions are equal, and every fraction
-- in both lists is the reading of its input from the lent image on the large dash."
pub record Agrees (kind : ℕ) (image : List ℕ) (slow fast : List Refresh) : Type 0 where
  pub paired : (t : ℕ) → t < length slow → get_or slow t never ≡ get_or fast (6 * t) never
  pub slow_shown : (t : ℕ) → t < length slow → Shown kind image (get_or slow t never)
  pub fast_shown : (k : ℕ) → k < length fast → Shown kind image (get_or fast k never)

-- Fast tick k is right: as its slow tick, if it pairs with one, and shown.
pub record Right (kind : ℕ) (image : List ℕ) (slow fast : List Refresh) (k : ℕ) : Type 0 where
  pub paired : (t : ℕ) → k ≡ 6 * t → get_or slow t never ≡ get_or fast k never
  pub shown : Shown kind image (get_or fast k never)

-- "the first failing fast tick, unpaired ticks included"
pub record FirstFailing (kind : ℕ) (image : List ℕ) (slow fast : List Refresh) (k : ℕ) : Type 0 where
  pub inside : k < length fast
  pub before : (j : ℕ) → j < k → Right kind image slow fast j
  pub fails : Right kind image slow fast k → ⊥

-- The answer is agreement exactly if the recordings agree.
abbrev pub AgreesExactly : Type 0
AgreesExactly =
    (kind : ℕ) (image : List ℕ) (c : Contents) (slow fast : List ℤ) →
    contents kind image ≡ Ok c → unlike (length slow) (length fast) ≡ false →
    (compare kind image slow fast ≡ Ok Agree) ↔ Agrees kind image (refreshes slow) (refreshes fast)

-- The answer names a tick exactly if it is the first failing one.
abbrev pub FailsFirst : Type 0
FailsFirst =
    (kind : ℕ) (image : List ℕ) (c : Contents) (slow fast : List ℤ) (k : ℕ) →
    contents kind image ≡ Ok c → unlike (length slow) (length fast) ≡ false →
    (compare kind image slow fast ≡ Ok (Tick k)) ↔ FirstFailing kind image (refreshes slow) (refreshes fast) k

-- "Two empty lists agree", for every accepted image.
abbrev pub EmptyAgree : Type 0
EmptyAgree = (kind : ℕ) (image : List ℕ) (c : Contents) → contents kind image ≡ Ok c → compare kind image [] [] ≡ Ok Agree
