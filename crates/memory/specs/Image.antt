-- Document 01, "Image and stream", with document 02's Note 1: kinds, pages, check bytes,
-- blank pages, and the stream between them. Kind and page are document 01's terms.
use Rattle.std.specs.Prelude.{◌≡◌, ℕ, zero, suc, ◌+◌, ◌-◌, ◌*◌, ◌/◌, ◌%◌, ◌<◌, Bool, true, false, cond, not, ◌&&◌, List, [], ◌∷◌, ◌++◌, length, take, drop, ◌==◌, nat_lt}
use Rattle.refusal.specs.Outcome.{Outcome, Ok, Err, ◌>>◌, ◌>>=◌, refuse◌if◌}
use Rattle.refusal.specs.declared.Refusal.TheVariants.{WrongImage, WrongSum, BlankChip}
use Rattle.memory.specs.declared.Sizes.{Sizes}
use Rattle.memory.specs.declared.pages.PageTest.{PageTest}
use Rattle.memory.specs.declared.pages.PageTest.TheVariants.{Good, Wrong, Blank}
use Rattle.memory.specs.Bits.{number, bytes_of}

-- ---- kinds

-- "Kind 0: 40 bytes, a register of 8 bytes and one page.
-- Kind 1: 128 bytes, 4 pages. Kind 2: 512 bytes, 16 pages."
abbrev pub sizes_of : ℕ → Outcome Sizes
sizes_of zero = Ok (record { register = 8; pages = 1 })
sizes_of (suc zero) = Ok (record { register = 0; pages = 4 })
sizes_of (suc (suc zero)) = Ok (record { register = 0; pages = 16 })
sizes_of (suc (suc (suc k))) = Err WrongImage

-- "A page is 32 bytes." All but its byte 0 belong to the stream.
abbrev pub image_bytes : Sizes → ℕ
image_bytes z = z.register + 32 * z.pages

abbrev pub stream_bytes : Sizes → ℕ
stream_bytes z = z.register + 31 * z.pages

abbrev pub stream_bits : Sizes → ℕ
stream_bits z = 8 * stream_bytes z

-- Row 1: the sizes of an image of this kind and length.
unfoldable pub image_sizes : ℕ → ℕ → Outcome Sizes
image_sizes kind bytes = do
  z ← sizes_of kind
  refuse WrongImage if not (bytes == image_bytes z)
  Ok z

-- ---- pages and their sums

-- The offset of page i in the image: "Its byte 0 is a check byte".
abbrev pub page_at : Sizes → ℕ → ℕ
page_at z i = z.register + 32 * i

abbrev pub page : Sizes → List ℕ → ℕ → List ℕ
page z image i = take 32 (drop (page_at z i) image)

-- The bytes that page i's check byte covers, which "add up to 0 modulo
-- 256": the page, and for page 0 the register too (document 000, 6.2.2).
abbrev pub covered : Sizes → List ℕ → ℕ → List ℕ
covered z image zero = take (z.register + 32) image
covered z image (suc i) = page z image (suc i)

abbrev pub total : List ℕ → ℕ
total [] = 0
total (b ∷ bytes) = b + total bytes

abbrev pub page_sum : Sizes → List ℕ → ℕ → ℕ
page_sum z image i = total (covered z image i) % 256

-- Every page adds up to 0.
abbrev pub SumsRight : Sizes → List ℕ → Type 0
SumsRight z image = (i : ℕ) → i < z.pages → page_sum z image i ≡ 0

-- Note 1: a blank page is "32 bytes of hexadecimal FF". The register does not count.
abbrev pub all_ff : List ℕ → Bool
all_ff [] = true
all_ff (b ∷ bytes) = b == 0xFF && all_ff bytes

abbrev pub blank_page : Sizes → List ℕ → ℕ → Bool
blank_page z image i = all_ff (page z image i)

-- "The page test shall tell three things: good, wrong, or blank".
unfoldable pub page_test : Sizes → List ℕ → ℕ → PageTest
page_test z image i = cond (blank_page z image i) Blank (cond (page_sum z image i == 0) Good Wrong)

abbrev pub is_good : PageTest → Bool
is_good Good = true
is_good Wrong = false
is_good Blank = false

-- All of n pages from page i on are blank.
unfoldable pub blank_from : Sizes → List ℕ → ℕ → ℕ → Bool
blank_from z image zero i = true
blank_from z image (suc n) i = blank_page z image i && blank_from z image n (suc i)

-- Row 2 by page, for n pages from page i on: "a blank page among others is still a wrong sum".
unfoldable pub sums_from : Sizes → List ℕ → ℕ → ℕ → Outcome (Unit {0})
sums_from z image zero i = Ok tt
sums_from z image (suc n) i = do
  refuse WrongSum i if not (is_good (page_test z image i))
  sums_from z image n (suc i)

-- Note 1: 17 is tested before 2.
abbrev pub sums : Sizes → List ℕ → Outcome (Unit {0})
sums z image = do
  refuse BlankChip if blank_from z image z.pages 0
  sums_from z image z.pages 0

-- A page's stream bytes, its bytes 1 to 31: "empty for a wrong kind, image length or page number".
abbrev pub part_of : List ℕ → ℕ → Outcome Sizes → List ℕ
part_of image i (Ok z) = cond (nat_lt i z.pages) (drop 1 (page z image i)) []
part_of image i (Err r) = []

unfoldable pub page_bytes : ℕ → List ℕ → ℕ → List ℕ
page_bytes kind image i = part_of image i (image_sizes kind (length image))

-- ---- image to stream

-- Bytes 1 to 31 of each of n pages.
abbrev pub pages_stream : ℕ → List ℕ → List ℕ
pages_stream zero bytes = []
pages_stream (suc n) bytes = take 31 (drop 1 bytes) ++ pages_stream n (drop 32 bytes)

-- "The stream is the register, if any, then bytes 1
-- to 31 of each page". Stream is document 01's term.
unfoldable pub stream_of : Sizes → List ℕ → List ℕ
stream_of z image = take z.register image ++ pages_stream z.pages (drop z.register image)

-- The stream as one number.
abbrev pub stream_number : Sizes → List ℕ → ℕ
stream_number z image = number (stream_of z image)

-- ---- stream to image

-- The byte that makes a sum 0 modulo 256.
abbrev pub check_byte : ℕ → ℕ
check_byte sum = (256 - sum % 256) % 256

-- n pages made from stream bytes. The check byte of the
-- first page also covers a further sum, the register's.
abbrev pub pages_of : ℕ → ℕ → List ℕ → List ℕ
pages_of zero sum bytes = []
pages_of (suc n) sum bytes = check_byte (sum + total (take 31 bytes)) ∷ (take 31 bytes ++ pages_of n 0 (drop 31 bytes))

-- The image with these stream bytes and right check bytes.
abbrev pub with_right : Sizes → List ℕ → List ℕ
with_right z bytes = take z.register bytes ++ pages_of z.pages (total (take z.register bytes)) (drop z.register bytes)

-- The image with this stream and right check bytes.
unfoldable pub image_of : Sizes → ℕ → List ℕ
image_of z N = with_right z (bytes_of (stream_bytes z) N)

-- The page whose check byte covers bit n of the stream: the register's bits belong to page 0.
abbrev pub page_of : Sizes → ℕ → ℕ
page_of z n = (n / 8 - z.register) / 31
