-- Only inner contracts need this: the image that sizes fit, the
-- offset of each stream byte in it, and the answers as outcomes.
use Rattle.std.specs.Prelude.{◌≡◌, ℕ, ◌+◌, ◌-◌, ◌/◌, ◌^◌, ◌<◌, ◌≤◌, cond, List, length, nat_lt}
use Rattle.memory.specs.declared.Sizes.{Sizes}
use Rattle.memory.specs.Image.{image_bytes}

-- An image of these sizes: at least one page, at most 8 bytes of register. No chip has 2^32 bytes.
pub record WholeImage (z : Sizes) (image : List ℕ) : Type 0 where
  pub long : length image ≡ image_bytes z
  pub small : image_bytes z < 2 ^ 32
  pub paged : 1 ≤ z.pages
  pub few : z.register ≤ 8

-- The offset of stream byte i in the image: the check bytes
-- of its page and of the pages before it are skipped.
abbrev pub stream_index : Sizes → ℕ → ℕ
stream_index z i = cond (nat_lt i z.register) i (i + (i - z.register) / 31 + 1)
