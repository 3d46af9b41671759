-- A tray judged image by image, as its bytes are read.
use Rattle.std.specs.Prelude.{◌≡◌, Bool, true, false, ◌&&◌, cond, List, ◌++◌, ℕ, ◌+◌, ◌-◌, ◌*◌, ◌≤◌, ◌<◌, ltb, length, take, replicate}
use Rattle.refusal.specs.Outcome.{Outcome, Ok, Err}
use Rattle.memory.specs.declared.Sizes.{Sizes}
use Rattle.memory.specs.Image.{image_bytes, image_sizes}
use Rattle.sheet.specs.Check.{check}
use Rattle.tray_report.specs.declared.Line.{Line}
use Rattle.tray_report.specs.declared.SoFar.{SoFar}
use Rattle.tray_report.specs.declared.ImageReport.{ImageReport}
use Rattle.tray_report.specs.Tray.{checks, most_images, bits_of, line, lines_from, total, total_line}

-- ---- the images

-- The bytes to be read after a kind: none after one above 2.
abbrev pub bytes_of : Outcome Sizes → ℕ
bytes_of (Ok z) = image_bytes z
bytes_of (Err r) = 0

-- Whether an image is whole: neither of a kind above 2 nor cut short.
abbrev pub is_whole : Outcome Sizes → Bool
is_whole (Ok z) = true
is_whole (Err r) = false

abbrev pub begun : SoFar
begun = record { images = 0; bits = 0; more = true }

-- The state after one more image. An image that is not
-- whole ends the tray, and so does the last of 1,000.
abbrev pub with : SoFar → ℕ → List ℕ → SoFar
with s kind image =
    record {
      images = s.images + 1;
      bits = s.bits + bits_of (check kind image);
      more = is_whole (image_sizes kind (length image)) && ltb (s.images + 1) most_images;
    }

-- What is still to be reported of a tray with these
-- further bytes: none of its images if it has ended.
abbrev pub left : SoFar → ℕ
left s = cond s.more (most_images - s.images) 0

unfoldable pub report_from : SoFar → List ℕ → List ℕ
report_from s bytes =
    let outcomes = checks (left s) bytes in
    lines_from (s.images + 1) outcomes ++ total_line (s.bits + total outcomes)

-- ---- the lines

-- The text of a line.
abbrev pub bytes_in : Line → List ℕ
bytes_in l = take l.length l.bytes

-- A text in an array with room for two numbers of 20
-- digits, a space, a minus sign and a newline, then zeros.
abbrev pub line_size : ℕ
line_size = 43

abbrev pub padded_line : List ℕ → Line
padded_line text = record { bytes = text ++ replicate (line_size - length text) 0; length = length text }

pub record Reads (l : Line) (text : List ℕ) : Type 0 where
  pub fits : length text ≤ line_size
  pub is : l ≡ padded_line text

-- The bytes of such a line that are written are the text.
abbrev pub TextOfLine : Type 0
TextOfLine = (l : Line) (text : List ℕ) → Reads l text → bytes_in l ≡ text

-- ---- what holds

-- No image has more bits than the largest chip's stream.
abbrev pub most_bits : ℕ
most_bits = 3_968

-- What holds after `begun` and any images: at most
-- 1,000 of them, and no more bits than they can have.
pub record Sound (s : SoFar) : Type 0 where
  pub few : s.images ≤ most_images
  pub small : s.bits ≤ most_bits * s.images
  pub last : s.more ≡ true → s.images < most_images

-- The line of an image is that of its check, at the next position.
pub record JudgedAs (s : SoFar) (kind : ℕ) (image : List ℕ) (j : ImageReport) : Type 0 where
  pub line : Reads j.line (line (s.images + 1) (check kind image))
  pub tray : j.tray ≡ with s kind image
  pub sound : Sound j.tray
