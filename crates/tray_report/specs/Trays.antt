-- Document 02, Note 12: the report has what the separate checks give, and
-- their sum. A tray judged image by image, as it is read, has the same report.
use Rattle.std.specs.Prelude.{◌≡◌, true, false, List, [], ◌∷◌, ◌++◌, map, ℕ, ◌+◌, ◌≤◌, ◌<◌, length, take, drop}
use Rattle.refusal.specs.Outcome.{Outcome, Ok, Err}
use Rattle.refusal.specs.declared.Refusal.TheVariants.{WrongImage, WrongSum}
use Rattle.memory.specs.declared.Sizes.{Sizes}
use Rattle.memory.specs.Image.{sizes_of, image_bytes, image_sizes}
use Rattle.sheet.specs.declared.Summary.{Summary}
use Rattle.sheet.specs.Check.{check}
use Rattle.tray_report.specs.declared.SoFar.{SoFar}
use Rattle.tray_report.specs.Tray.{most_images, line, lines_from, bits_of, total_line, report}
use Rattle.tray_report.specs.Images.{bytes_of, begun, with, report_from, most_bits, Sound}

-- ---- a tray and the separate checks of its images

-- An image with its kind.
pub record Sent : Type 0 where
  pub kind : ℕ
  pub image : List ℕ

abbrev pub sent_bytes : List Sent → List ℕ
sent_bytes [] = []
sent_bytes (s ∷ sent) = s.kind ∷ s.image ++ sent_bytes sent

-- Each image has its kind's size.
abbrev pub Sized : List Sent → Type 0
Sized [] = Unit {0}
Sized (s ∷ sent) = (z : Sizes) × (image_sizes s.kind (length s.image) ≡ Ok z) × Sized sent

abbrev pub check_of : Sent → Outcome Summary
check_of s = check s.kind s.image

-- "The sum equals what the separate checks of those images give."
abbrev pub sum_of : List Sent → ℕ
sum_of [] = 0
sum_of (s ∷ sent) = bits_of (check_of s) + sum_of sent

-- One line for each image, and the sum. An empty tray has the last line alone.
abbrev pub WholeTray : Type 0
WholeTray =
    (sent : List Sent) → Sized sent → length sent ≤ most_images →
    report (sent_bytes sent) ≡ lines_from 1 (map check_of sent) ++ total_line (sum_of sent)

-- "what follows them is not read", after 1,000 images.
abbrev pub FullTray : Type 0
FullTray =
    (sent : List Sent) (behind : List ℕ) → Sized sent → length sent ≡ most_images →
    report (sent_bytes sent ++ behind) ≡ report (sent_bytes sent)

-- "A kind above 2 or an image cut short gives the
-- line with -1 and ends the tray; the total follows."
abbrev pub CutShort : ℕ → List ℕ → Type 0
CutShort kind bytes = (z : Sizes) → sizes_of kind ≡ Ok z → length bytes < image_bytes z

abbrev pub CutTray : Type 0
CutTray =
    (sent : List Sent) (kind : ℕ) (bytes : List ℕ) → Sized sent → length sent < most_images → CutShort kind bytes →
    report (sent_bytes sent ++ (kind ∷ bytes)) ≡ lines_from 1 (map check_of sent ++ (Err WrongImage ∷ [])) ++ total_line (sum_of sent)

-- "A kind 0 image of 294 bits followed by one with a wrong
-- page sum prints three lines": "1 294", "2 -2", "total 294".
abbrev pub three_lines : List ℕ
three_lines =
    (49 ∷ 32 ∷ 50 ∷ 57 ∷ 52 ∷ 10 ∷ []) ++ (50 ∷ 32 ∷ 45 ∷ 50 ∷ 10 ∷ []) ++
    (116 ∷ 111 ∷ 116 ∷ 97 ∷ 108 ∷ 32 ∷ 50 ∷ 57 ∷ 52 ∷ 10 ∷ [])

abbrev pub PrintedExample : Type 0
PrintedExample =
    (a b : Sent) (s : Summary) (page : ℕ) → Sized (a ∷ b ∷ []) → check_of a ≡ Ok s → s.bits ≡ 294 → check_of b ≡ Err (WrongSum page) →
    report (sent_bytes (a ∷ b ∷ [])) ≡ three_lines

-- ---- a tray judged image by image

-- Before the first image, what is left to report is the whole report.
abbrev pub ToldFromTheStart : Type 0
ToldFromTheStart = (tray : List ℕ) → report_from begun tray ≡ report tray

-- A kind, and as many of the bytes after it as an image of that kind has.
-- The line of their check comes next, and then the report on the rest.
abbrev pub ToldInTurn : Type 0
ToldInTurn =
    (s : SoFar) (kind : ℕ) (bytes : List ℕ) → Sound s → s.more ≡ true →
    let came = take (bytes_of (sizes_of kind)) bytes in
    report_from s (kind ∷ bytes) ≡ line (s.images + 1) (check kind came) ++ report_from (with s kind came) (drop (length came) bytes)

-- At its end, and if no bytes are left: the last line.
abbrev pub ToldAtTheEnd : Type 0
ToldAtTheEnd =
    (s : SoFar) (bytes : List ℕ) → (s.more ≡ false → report_from s bytes ≡ total_line s.bits) × (report_from s [] ≡ total_line s.bits)

-- No sum needs more than 64 bits: no image has more than the 3,968 of the largest chip's stream.
abbrev pub FewBits : Type 0
FewBits = (kind : ℕ) (image : List ℕ) (s : Summary) → check kind image ≡ Ok s → s.bits ≤ most_bits
