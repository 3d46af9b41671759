-- Only inner contracts need this: an image with a check byte, the
-- stream or a field replaced, and every other byte unchanged.
use Rattle.std.specs.Prelude.{ℕ, zero, suc, List, [], ◌++◌, take, drop, slice_set}
use Rattle.memory.specs.declared.Sizes.{Sizes}
use Rattle.memory.specs.Bits.{bytes_of, put_at}
use Rattle.memory.specs.Image.{stream_bytes, page_at, covered, total, check_byte, stream_number}

-- The image with the right check byte in page i, whatever was there.
unfoldable pub sealed : Sizes → List ℕ → ℕ → List ℕ
sealed z image i =
    let cleared = slice_set image (page_at z i) 0 in
    slice_set image (page_at z i) (check_byte (total (covered z cleared i)))

-- n pages with other stream bytes and their check bytes unchanged.
abbrev pub pages_with : ℕ → List ℕ → List ℕ → List ℕ
pages_with zero image bytes = []
pages_with (suc n) image bytes = take 1 image ++ (take 31 bytes ++ pages_with n (drop 32 image) (drop 31 bytes))

-- The image with another stream and its check bytes unchanged.
unfoldable pub with_stream : Sizes → List ℕ → ℕ → List ℕ
with_stream z image N =
    let bytes = bytes_of (stream_bytes z) N in
    take z.register bytes ++ pages_with z.pages (drop z.register image) (drop z.register bytes)

-- The image with the field of w bits at a place of the
-- stream replaced by a code: no other bit and no check byte.
abbrev pub put_in : Sizes → List ℕ → ℕ → ℕ → ℕ → List ℕ
put_in z image at w code = with_stream z image (put_at (stream_number z image) at w code)
