-- Document 01, "Image and stream": a stream has "39, 124 or 496 bytes",
-- and an image whose sums are right is determined by its stream.
use Rattle.std.specs.Prelude.{◌≡◌, List, ℕ, ◌^◌, ◌<◌, length}
use Rattle.refusal.specs.Outcome.{Outcome, Ok, Err}
use Rattle.memory.specs.declared.Sizes.{Sizes}
use Rattle.memory.specs.Bits.{Bytes}
use Rattle.memory.specs.Image.{sizes_of, image_bytes, stream_bytes, stream_bits, stream_number, image_of, SumsRight}

-- The bytes of a kind's image, and of its stream.
abbrev pub bytes_by : (Sizes → ℕ) → Outcome Sizes → ℕ
bytes_by size (Ok z) = size z
bytes_by size (Err r) = 0

pub record StreamSizes : Type 0 where
  pub image0 : bytes_by image_bytes (sizes_of 0) ≡ 40
  pub image1 : bytes_by image_bytes (sizes_of 1) ≡ 128
  pub image2 : bytes_by image_bytes (sizes_of 2) ≡ 512
  pub stream0 : bytes_by stream_bytes (sizes_of 0) ≡ 39
  pub stream1 : bytes_by stream_bytes (sizes_of 1) ≡ 124
  pub stream2 : bytes_by stream_bytes (sizes_of 2) ≡ 496

-- The image of a stream has right sums and that stream.
pub record ImageOfStream (z : Sizes) (N : ℕ) : Type 0 where
  pub long : length (image_of z N) ≡ image_bytes z
  pub bytes : Bytes (image_of z N)
  pub right : SumsRight z (image_of z N)
  pub stream : N < 2 ^ stream_bits z → stream_number z (image_of z N) ≡ N

abbrev pub StreamToImage : Type 0
StreamToImage = (z : Sizes) (N : ℕ) → ImageOfStream z N

-- An image with right sums is the image of its stream: no other has that stream.
abbrev pub ImageToStream : Type 0
ImageToStream = (z : Sizes) (image : List ℕ) → length image ≡ image_bytes z → Bytes image → SumsRight z image → image_of z (stream_number z image) ≡ image
