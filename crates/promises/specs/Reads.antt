-- Document 01, "Layout" and "Turning down": how far a
-- check judges an image, and what reads of it return.
use Rattle.std.specs.Prelude.{◌≡◌, List, ℕ, ◌%◌, ◌^◌, length}
use Rattle.refusal.specs.declared.Refusal.{Refusal}
use Rattle.refusal.specs.Outcome.{Ok, Err}
use Rattle.memory.specs.declared.Sizes.{Sizes}
use Rattle.memory.specs.Image.{image_sizes, sums, stream_number}
use Rattle.layout.specs.Contents.{Contents}
use Rattle.layout.specs.Image.{contents}
use Rattle.sheet.specs.declared.Summary.{Summary}
use Rattle.sheet.specs.Check.{check}
use Rattle.sheet.specs.Reads.{ReadsEach, ReadsNone}

-- "Bits after the end are not judged". An image of the same kind has the same contents
-- if it passes the page test and its stream agrees with an accepted one up to its end.
abbrev pub BitsBehindNotJudged : Type 0
BitsBehindNotJudged =
    (kind : ℕ) (image other : List ℕ) (z : Sizes) (c : Contents) →
    image_sizes kind (length image) ≡ Ok z → contents kind image ≡ Ok c →
    image_sizes kind (length other) ≡ Ok z → sums z other ≡ Ok tt →
    stream_number z image % 2 ^ c.bits ≡ stream_number z other % 2 ^ c.bits →
    contents kind other ≡ Ok c

-- Field, pair, character, segment or term read: "check, 8".
abbrev pub ReadByIndex : Type 0
ReadByIndex =
    (kind : ℕ) (image : List ℕ) →
    ((s : Summary) → check kind image ≡ Ok s → (c : Contents) × (contents kind image ≡ Ok c) × ReadsEach kind image s c) ×
    ((r : Refusal) → check kind image ≡ Err r → ReadsNone kind image r)
