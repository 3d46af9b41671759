-- Laws of reading a field at a place, inside the stream or past its end.
use Rattle.stream.proofs.Names.{◌≡◌, List, ℕ, ◌+◌, ◌≤◌, ◌<◌, lt-ltb, le-ltb, Ok, Err, PastEnd, Sizes, field_at, stream_bits, stream_number, taken_at}

module _ (z : Sizes) (image : List ℕ) (at w : ℕ) where
  pub take-inside : at + w ≤ stream_bits z → taken_at z image at w ≡ Ok (record { code = field_at (stream_number z image) at w; next = at + w })
  unfolding taken_at
  take-inside h = simp (le-ltb (stream_bits z) (at + w) h)

  pub take_past : stream_bits z < at + w → taken_at z image at w ≡ Err (PastEnd at)
  unfolding taken_at
  take_past h = simp (lt-ltb (stream_bits z) (at + w) h)
