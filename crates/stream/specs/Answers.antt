-- Only inner contracts need this: fields inside an image's stream, and the answers as outcomes.
use Rattle.std.specs.Prelude.{List, ℕ, ◌+◌, ◌≤◌, ltb}
use Rattle.refusal.specs.Outcome.{Outcome, Ok, Err, ◌>>◌, refuse◌if◌}
use Rattle.refusal.specs.declared.Refusal.TheVariants.{PastEnd}
use Rattle.memory.specs.declared.Sizes.{Sizes}
use Rattle.memory.specs.Bits.{field_at}
use Rattle.memory.specs.Image.{stream_bits, stream_number}
use Rattle.memory.specs.Answers.{WholeImage}
use Rattle.stream.specs.declared.cursor.Cursor.{Cursor}
use Rattle.stream.specs.declared.cursor.Passed.{Passed}

-- A field of 1 to 49 bits inside the stream. From any bit of a byte
-- on it fits in 8 bytes of the image, a check byte among them.
pub record InStream (z : Sizes) (image : List ℕ) (at width : ℕ) : Type 0 where
  pub whole : WholeImage z image
  pub inside : at + width ≤ stream_bits z
  pub some : 1 ≤ width
  pub most : width ≤ 49

-- A field and the cursor after it.
abbrev pub passed_over : Cursor → ℕ → Passed
passed_over cursor w = record { field = record { at = cursor.at }; next = record { at = cursor.at + w } }

-- ---- the answers

-- A field's code, and the place after the field.
pub record Step : Type 0 where
  pub code : ℕ
  pub next : ℕ

abbrev pub taken_said : (Outcome (ℕ × Cursor)) → Outcome Step
taken_said (Ok x) = Ok (record { code = x.0; next = x.1.at })
taken_said (Err r) = Err r

-- Row 3: the field of w bits at a place, if it is inside the stream, and the place after it.
unfoldable pub taken_at : Sizes → List ℕ → ℕ → ℕ → Outcome Step
taken_at z image at w = do
  refuse PastEnd at if ltb (stream_bits z) (at + w)
  Ok (record { code = field_at (stream_number z image) at w; next = at + w })
