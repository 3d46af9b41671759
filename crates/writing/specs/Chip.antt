-- What a chip holds after a step, carried out whole or torn.
use Rattle.std.specs.Prelude.{◌≡◌, ℕ, ◌<◌, ◌⊎◌, List, length, ◌≢◌, slice_index}
use Rattle.refusal.specs.declared.Refusal.{Refusal}
use Rattle.refusal.specs.Outcome.{Err}
use Rattle.memory.specs.declared.Sizes.{Sizes}
use Rattle.memory.specs.Bits.{Bytes}
use Rattle.memory.specs.Image.{sums}
use Rattle.writing.specs.Steps.{row, rows, written, Step, done, write}

abbrev pub after : Step → List ℕ → List ℕ
after done image = image
after (write r bytes) image = written r bytes image

-- A write that was cut off: a byte that the write does
-- not change keeps its value; any other may be any byte.
pub record Torn (before after image : List ℕ) : Type 0 where
  pub long : length image ≡ length before
  pub bytes : Bytes image
  pub stays : (i : ℕ) → slice_index after i ≡ slice_index before i → slice_index image i ≡ slice_index before i

-- The step writes a row of the image, 8 bytes that differ from what is there.
abbrev pub Changes : Sizes → List ℕ → Step → Type 0
Changes z image done = Unit {0}
Changes z image (write r bytes) = (r < rows z) × (length bytes ≡ 8) × (row r image ≢ bytes)

-- The page sums refuse an image.
abbrev pub Refuses : Sizes → List ℕ → Type 0
Refuses z image = (why : Refusal) × (sums z image ≡ Err why)

abbrev pub WantedOrRefused : Sizes → List ℕ → List ℕ → Type 0
WantedOrRefused z wanted image = (image ≡ wanted) ⊎ Refuses z image
