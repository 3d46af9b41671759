-- Document 01, "Image and stream", as statements about the stream of every contract. Where its
-- bits are in the image, the order of a field's bits, and that a put leaves other bits unchanged.
use Rattle.std.specs.Prelude.{◌≡◌, List, ◌⊎◌, ℕ, ◌+◌, ◌/◌, ◌%◌, ◌^◌, ◌≤◌, ◌<◌, length, get_or}
use Rattle.refusal.specs.Outcome.{Ok}
use Rattle.memory.specs.declared.Sizes.{Sizes}
use Rattle.memory.specs.Bits.{Bytes, bit, field_at, put_at}
use Rattle.memory.specs.Image.{image_sizes, stream_of, stream_number}

-- "Stream bit n is bit n mod 8 of byte n / 8, bit 0 lowest."
abbrev pub StreamBit : Type 0
StreamBit =
    (kind : ℕ) (image : List ℕ) (z : Sizes) → Bytes image → image_sizes kind (length image) ≡ Ok z →
    (n : ℕ) → bit (stream_number z image) n ≡ bit (get_or (stream_of z image) (n / 8) 0) (n % 8)

-- "A field's first bit is its lowest."
abbrev pub FirstBitLowest : Type 0
FirstBitLowest = (N n w i : ℕ) → i < w → bit (field_at N n w) i ≡ bit N (n + i)

-- A code that is put into a field is there, and "bits outside it keep their state".
pub record PutInPlace (N n w code : ℕ) : Type 0 where
  pub stands : field_at (put_at N n w code) n w ≡ code
  pub others : (i : ℕ) → (i < n) ⊎ (n + w ≤ i) → bit (put_at N n w code) i ≡ bit N i

abbrev pub Puts : Type 0
Puts = (N n w code : ℕ) → code < 2 ^ w → PutInPlace N n w code
