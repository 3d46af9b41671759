-- Only inner contracts need this: a build writes pieces in order
-- into a cleared image. What the stream then holds.
use Rattle.std.specs.Prelude.{◌≡◌, List, ℕ, ◌+◌, ◌*◌, ◌^◌, ◌≤◌, ◌<◌}
use Rattle.memory.specs.declared.Sizes.{Sizes}
use Rattle.stream.specs.declared.cursor.Cursor.{Cursor}
use Rattle.memory.specs.Bits.{Bytes}
use Rattle.memory.specs.Image.{stream_bits, stream_number}
use Rattle.memory.specs.Answers.{WholeImage}
use Rattle.memory.specs.Pieces.{Piece, pack, needed}

-- An image whose stream has only zeros from a bit on.
pub record Free (z : Sizes) (image : List ℕ) (at : ℕ) : Type 0 where
  pub whole : WholeImage z image
  pub bytes : Bytes image
  pub below : stream_number z image < 2 ^ at

-- From the cursor on the stream has only zeros, and room for the pieces.
pub record Room (z : Sizes) (image : List ℕ) (cursor : Cursor) (pieces : List Piece) : Type 0 where
  pub free : Free z image cursor.at
  pub inside : cursor.at + needed pieces ≤ stream_bits z

-- The pieces are written there; `next` is the cursor after them.
pub record Filled (z : Sizes) (before : List ℕ) (cursor : Cursor) (pieces : List Piece) (after : List ℕ) (next : Cursor) : Type 0 where
  pub free : Free z after next.at
  pub stream : stream_number z after ≡ pack pieces * 2 ^ cursor.at + stream_number z before
  pub moved : next.at ≡ cursor.at + needed pieces

-- The first pieces of a stream in a cleared image; `next` is the cursor after them.
pub record Begun (z : Sizes) (pieces : List Piece) (image : List ℕ) (next : Cursor) : Type 0 where
  pub free : Free z image next.at
  pub stream : stream_number z image ≡ pack pieces
  pub moved : next.at ≡ needed pieces
