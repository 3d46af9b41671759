-- Document 02, Note 12: the tray report.
use Rattle.std.specs.Prelude.{cond, List, [], ◌∷◌, ◌++◌, ℕ, zero, suc, ◌+◌, ◌/◌, ◌%◌, ltb, length, take, drop}
use Rattle.refusal.specs.Outcome.{Outcome, Ok, Err}
use Rattle.refusal.specs.Rows.{row_number}
use Rattle.refusal.specs.declared.Refusal.TheVariants.{WrongImage}
use Rattle.memory.specs.declared.Sizes.{Sizes}
use Rattle.memory.specs.Image.{sizes_of, image_bytes}
use Rattle.sheet.specs.declared.Summary.{Summary}
use Rattle.sheet.specs.Check.{check}

-- ---- the images

-- The check of an image, and the bytes after it.
pub record First : Type 0 where
  pub outcome : Outcome Summary
  pub behind : List ℕ

-- "A kind above 2 or an image cut short gives the line with
-- -1 and ends the tray": the check is 1, and no bytes follow.
abbrev pub cut : First
cut = record { outcome = Err WrongImage; behind = [] }

abbrev pub first_of : ℕ → List ℕ → Outcome Sizes → First
first_of kind bytes (Err r) = cut
first_of kind bytes (Ok z) =
    let size = image_bytes z in
    cond (ltb (length bytes) size) cut (record { outcome = check kind (take size bytes); behind = drop size bytes })

-- The checks of at most n images, in order: "for each
-- image one byte with its kind, then its bytes".
unfoldable pub checks : ℕ → List ℕ → List (Outcome Summary)
checks zero bytes = []
checks (suc n) [] = []
checks (suc n) (kind ∷ bytes) = let first = first_of kind bytes (sizes_of kind) in first.outcome ∷ checks n first.behind

-- "A tray ends after 1,000 images too, and what follows them is not read."
abbrev pub most_images : ℕ
most_images = 1_000

abbrev pub tray_checks : List ℕ → List (Outcome Summary)
tray_checks tray = checks most_images tray

-- ---- the lines

-- A number in decimal digits; at most this many.
unfoldable pub digits_up_to : ℕ → ℕ → List ℕ
digits_up_to zero n = []
digits_up_to (suc most) n = cond (ltb n 10) [] (digits_up_to most (n / 10)) ++ ((48 + n % 10) ∷ [])

abbrev pub decimal : ℕ → List ℕ
decimal n = digits_up_to (suc n) n

-- "its stream bits up to the end, or the refusal number with a minus sign" (45)
abbrev pub result_text : Outcome Summary → List ℕ
result_text (Ok s) = decimal s.bits
result_text (Err r) = 45 ∷ decimal (row_number r)

-- The position, a space (32), the bits or the refusal, and a newline (10).
abbrev pub line : ℕ → Outcome Summary → List ℕ
line position outcome = decimal position ++ (32 ∷ result_text outcome) ++ (10 ∷ [])

-- "one line per image"
abbrev pub lines_from : ℕ → List (Outcome Summary) → List ℕ
lines_from position [] = []
lines_from position (outcome ∷ outcomes) = line position outcome ++ lines_from (suc position) outcomes

-- The bits of an accepted image.
abbrev pub bits_of : Outcome Summary → ℕ
bits_of (Ok s) = s.bits
bits_of (Err r) = 0

abbrev pub total : List (Outcome Summary) → ℕ
total [] = 0
total (outcome ∷ outcomes) = bits_of outcome + total outcomes

-- The last line is "total", a space and the sum of bits of the accepted images.
abbrev pub total_line : ℕ → List ℕ
total_line bits = 116 ∷ 111 ∷ 116 ∷ 97 ∷ 108 ∷ 32 ∷ decimal bits ++ (10 ∷ [])

-- "its position from 1"
unfoldable pub report : List ℕ → List ℕ
report tray = let outcomes = tray_checks tray in lines_from 1 outcomes ++ total_line (total outcomes)
