-- An image written to a chip that may be pulled out at any moment:
-- what the chip can hold after writing the rows that the call answers.
use Rattle.std.specs.Prelude.{◌≡◌, List, ◌⊎◌, ◌↔◌, ℕ, zero, suc, ◌+◌, ◌*◌, ◌/◌, ◌≤◌, length}
use Rattle.refusal.specs.declared.Refusal.{Refusal}
use Rattle.refusal.specs.Outcome.{Outcome, Ok, Err}
use Rattle.refusal.specs.declared.Refusal.TheVariants.{WrongSum, BlankChip}
use Rattle.memory.specs.Bits.{Bytes}
use Rattle.layout.specs.Image.{contents}
use Rattle.writing.specs.Numbers.{count}
use Rattle.writing.specs.Steps.{row, differs, Step, done, write, next_row}
use Rattle.writing.specs.Chip.{after, Torn}

-- What the chip holds after the call's answer is carried out: a refusal writes nothing.
abbrev pub carried_out : Outcome Step → List ℕ → List ℕ
carried_out (Ok s) image = after s image
carried_out (Err r) image = image

abbrev pub next : ℕ → List ℕ → List ℕ → List ℕ
next kind wanted present = carried_out (next_row kind present wanted) present

-- What the chip holds after n writes in order.
abbrev pub writes : ℕ → List ℕ → ℕ → List ℕ → List ℕ
writes kind wanted zero present = present
writes kind wanted (suc n) present = writes kind wanted n (next kind wanted present)

-- What a chip that held old may hold after any number
-- of writes, each whole or, on kinds 1 and 2, torn.
pub data Reached (kind : ℕ) (wanted old : List ℕ) : List ℕ → Type 0 where
  start : Reached kind wanted old old
  whole : {present : List ℕ} → Reached kind wanted old present → Reached kind wanted old (next kind wanted present)
  torn : {present image : List ℕ} → 1 ≤ kind → Reached kind wanted old present → Torn present (next kind wanted present) image → Reached kind wanted old image

-- A check refuses an image for its sums: 17, or 2 at some page.
abbrev pub RefusedBySums : ℕ → List ℕ → Type 0
RefusedBySums kind image = (why : Refusal) × (contents kind image ≡ Err why) × ((why ≡ BlankChip) ⊎ ((page : ℕ) × (why ≡ WrongSum page)))

-- 1. Whatever a chip can hold then is what was there at first, the wanted
-- image, or refused. Every call that checks an image starts from `contents`.
abbrev pub Safe : Type 0
Safe = (kind : ℕ) (wanted old : List ℕ) → Bytes wanted → Bytes old → (image : List ℕ) → Reached kind wanted old image
    → (image ≡ old) ⊎ ((image ≡ wanted) ⊎ RefusedBySums kind image)

-- The rows that differ, and the number of writes that suffice:
-- at most 14 for kind 0, 20 for kind 1, 68 for kind 2.
abbrev pub differing : List ℕ → List ℕ → ℕ
differing present wanted = count (differs present wanted) (length wanted / 8)

abbrev pub enough : ℕ → List ℕ → List ℕ → ℕ
enough zero present wanted = 2 * differing present wanted + 4
enough (suc k) present wanted = differing present wanted + 4

-- The call is not refused: it answers a row, or done.
abbrev pub NotRefused : ℕ → List ℕ → List ℕ → Type 0
NotRefused kind present wanted = (s : Step) × (next_row kind present wanted ≡ Ok s)

-- 2. This many writes or more leave the wanted image;
-- the call answers done exactly if the chip holds it.
abbrev pub Ends : Type 0
Ends = (kind : ℕ) (wanted present : List ℕ) → NotRefused kind present wanted → (n : ℕ) → enough kind present wanted ≤ n → writes kind wanted n present ≡ wanted

abbrev pub DoneExactly : Type 0
DoneExactly = (kind : ℕ) (wanted present : List ℕ) (s : Step) → next_row kind present wanted ≡ Ok s → (s ≡ done) ↔ (present ≡ wanted)

-- 3. The call depends on present and wanted alone: it answers for whatever
-- the chip can hold, so that writing continues from there to the image.
pub record GoesOn (kind : ℕ) (wanted image : List ℕ) : Type 0 where
  pub taken : NotRefused kind image wanted
  pub ends : (n : ℕ) → enough kind image wanted ≤ n → writes kind wanted n image ≡ wanted

abbrev pub Resumes : Type 0
Resumes = (kind : ℕ) (wanted old : List ℕ) → NotRefused kind old wanted → (image : List ℕ) → Reached kind wanted old image → GoesOn kind wanted image

-- 4. A row that is written is 8 bytes, a row of the image, and differs from what is there.
abbrev pub Sparing : Type 0
Sparing = (kind : ℕ) (wanted present : List ℕ) (r : ℕ) (bytes : List ℕ) → next_row kind present wanted ≡ Ok (write r bytes)
    → (8 * r + 8 ≤ length present) × (length bytes ≡ 8) × (row r present ≡ bytes → ⊥)
