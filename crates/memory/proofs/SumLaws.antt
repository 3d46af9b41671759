-- Laws of page sums, and of the check of all pages.
use Rattle.memory.proofs.Names.{◌≡◌, refl, sym, ap, ap₂, ◌∙◌, subst, Bool, true, false, true≢false, not, List, [], ◌∷◌, ◌++◌, ℕ, zero, suc, ◌+◌, ◌-◌, ◌*◌, ◌/◌, ◌%◌, ◌≤◌, ◌<◌, add-zero, add-sub_cancel_left}
use Rattle.memory.proofs.Names.{le_refl, add-one, arith, ℕ_discrete, lt_of_le-ne, eqb, length, take, drop, get_or, length-drop, drop-cons, take-add, length-take-le, get_or-take, get_or-drop, ext_get_or, eqb-true, eq-eqb}
use Rattle.memory.proofs.Names.{ne_eqb, not-false, Ok, Err, refuse◌if◌, ◌>>◌, WrongSum, BlankChip, passed, both, Other, other-then, Sizes, Good, Wrong, Blank, Bytes, bit, image_bytes, page_at, page, covered}
use Rattle.memory.proofs.Names.{total, page_sum, SumsRight, all_ff, blank_page, page_test, is_good, blank_from, sums_from, sums, check_byte, stream_of, stream_number, stream_index}
use Rattle.memory.proofs.Streams.{stream-length, stream_at, stream-bit, index-register, index-page}

-- ---- what a page's sum covers

pub total-append : (l k : List ℕ) → total (l ++ k) ≡ total l + total k
total-append [] k = omega arith
total-append (b ∷ l) k = omega (arith, total-append l k)

-- The stream bytes that page q's check byte covers: the page's 31, and with page 0 the register's.
abbrev pub stream_part : Sizes → List ℕ → ℕ → List ℕ
stream_part z bytes zero = take (z.register + 31) bytes
stream_part z bytes (suc q) = take 31 (drop (z.register + 31 * suc q) bytes)

module _ (z : Sizes) (image : List ℕ) (whole : length image ≡ image_bytes z) where
  register-part : take z.register (stream_of z image) ≡ take z.register image
  register-part =
      let m : length (take z.register (stream_of z image)) ≡ z.register = length-take-le z.register (stream_of z image) (omega (arith, stream-length z image whole)) in
      ext_get_or 0 _ _ (m ∙ sym (length-take-le z.register image (omega arith))) (λ i h. go i (omega arith))
    where
      go : (i : ℕ) → i < z.register → get_or (take z.register (stream_of z image)) i 0 ≡ get_or (take z.register image) i 0
      go i h =
          get_or-take z.register (stream_of z image) i 0 h ∙ stream_at z image whole i (omega arith)
          ∙ ap (λ (x : ℕ). get_or image x 0) (index-register z i h) ∙ sym (get_or-take z.register image i 0 h)

  module _ (q : ℕ) (hq : q < z.pages) where
    -- A page's bytes 1 to 31, in the stream and in the image.
    pub page-part : take 31 (drop (z.register + 31 * q) (stream_of z image)) ≡ take 31 (drop (suc (page_at z q)) image)
    page-part =
        let s : List ℕ = drop (z.register + 31 * q) (stream_of z image) in
        let m : length (take 31 s) ≡ 31 = length-take-le 31 s (omega (arith, length-drop (z.register + 31 * q) (stream_of z image), stream-length z image whole)) in
        let n : length (take 31 (drop (suc (page_at z q)) image)) ≡ 31 = length-take-le 31 (drop (suc (page_at z q)) image) (omega (arith, length-drop (suc (page_at z q)) image)) in
        ext_get_or 0 _ _ (m ∙ sym n) (λ i h. go i (omega arith))
      where
        go : (i : ℕ) → i < 31 → get_or (take 31 (drop (z.register + 31 * q) (stream_of z image))) i 0 ≡ get_or (take 31 (drop (suc (page_at z q)) image)) i 0
        go i h =
            get_or-take 31 (drop (z.register + 31 * q) (stream_of z image)) i 0 h ∙ get_or-drop (z.register + 31 * q) (stream_of z image) i 0
            ∙ stream_at z image whole (z.register + 31 * q + i) (omega arith)
            ∙ ap (λ (x : ℕ). get_or image x 0) (omega (arith, index-page z (z.register + 31 * q + i) (omega arith)))
            ∙ sym (get_or-take 31 (drop (suc (page_at z q)) image) i 0 h ∙ get_or-drop (suc (page_at z q)) image i 0)

    page-total : total (take 32 (drop (page_at z q) image)) ≡ get_or image (page_at z q) 0 + total (take 31 (drop (z.register + 31 * q) (stream_of z image)))
    page-total =
        ap (λ (x : List ℕ). total (take 32 x)) (drop-cons image (page_at z q) 0 (omega arith))
        ∙ ap (λ (x : List ℕ). get_or image (page_at z q) 0 + total x) (sym page-part)

-- The sum of a page is its check byte and the stream bytes that it covers.
pub covered-total : (z : Sizes) (image : List ℕ) → length image ≡ image_bytes z → (q : ℕ) → q < z.pages
    → total (covered z image q) ≡ get_or image (page_at z q) 0 + total (stream_part z (stream_of z image) q)
covered-total z image whole zero h =
    let r : ℕ = z.register in
    let s : List ℕ = stream_of z image in
    let p : total (take 32 (drop r image)) ≡ get_or image r 0 + total (take 31 (drop r s)) = rw (add-zero r) at (page-total z image whole 0 h) in
    let a : total (take (r + 32) image) ≡ total (take r image) + total (take 32 (drop r image)) = ap total (take-add r 32 image) ∙ total-append (take r image) _ in
    let b : total (take (r + 31) s) ≡ total (take r image) + total (take 31 (drop r s)) =
    ap total (take-add r 31 s) ∙ total-append (take r s) _ ∙ ap (λ (x : List ℕ). total x + total (take 31 (drop r s))) (register-part z image whole) in
    rw (add-zero r) (omega arith)
covered-total z image whole (suc q) h = page-total z image whole (suc q) h

module _ (z : Sizes) (image : List ℕ) (whole : length image ≡ image_bytes z) (q : ℕ) (hq : q < z.pages) where
  pub sum-parts : page_sum z image q ≡ (get_or image (page_at z q) 0 + total (stream_part z (stream_of z image) q)) % 256
  sum-parts = ap (λ (x : ℕ). x % 256) (covered-total z image whole q hq)

  -- A page's sum depends only on its check byte and its part of the stream.
  pub sum_same : (l : List ℕ) → length l ≡ image_bytes z → get_or l (page_at z q) 0 ≡ get_or image (page_at z q) 0
      → stream_part z (stream_of z l) q ≡ stream_part z (stream_of z image) q → page_sum z l q ≡ page_sum z image q
  sum_same l wl c p =
      ap (λ (x : ℕ). x % 256) (covered-total z l wl q hq)
      ∙ ap₂ (λ (x : ℕ) (y : List ℕ). (x + total y) % 256) c p
      ∙ sym sum-parts

-- The sum as the code computes it: the register with page 0, or one other page.
pub sum_first : (z : Sizes) (image : List ℕ) (q : ℕ) → q ≡ 0 → total (take (page_at z q + 32) image) % 256 ≡ page_sum z image q
sum_first z image zero e = ap (λ (n : ℕ). total (take (n + 32) image) % 256) (add-zero z.register)
sum_first z image (suc q) e = absurd (omega arith)

pub sum-later : (z : Sizes) (image : List ℕ) (q : ℕ) → (q ≡ 0 → ⊥) → total (take (page_at z q + 32 - page_at z q) (drop (page_at z q) image)) % 256 ≡ page_sum z image q
sum-later z image zero h = absurd (h refl)
sum-later z image (suc q) h = ap (λ (n : ℕ). total (take n (drop (page_at z (suc q)) image)) % 256) (add-sub_cancel_left (page_at z (suc q)) 32)

-- ---- the check byte

pub check-right : (s : ℕ) → (check_byte s + s) % 256 ≡ 0
check-right s = omega arith

pub check-is : (c s : ℕ) → c < 256 → (c + s) % 256 ≡ 0 → c ≡ check_byte s
check-is c s h e = omega arith

pub check-lt : (s : ℕ) → check_byte s < 256
check-lt s = omega arith

-- If a page's sum is 0, its check byte is the right one for its part of the stream.
pub right-check : (z : Sizes) (image : List ℕ) → length image ≡ image_bytes z → Bytes image → (q : ℕ) → q < z.pages → page_sum z image q ≡ 0
    → get_or image (page_at z q) 0 ≡ check_byte (total (stream_part z (stream_of z image) q))
right-check z image whole hb q hq e =
    check-is (get_or image (page_at z q) 0) (total (stream_part z (stream_of z image) q)) (hb (page_at z q)) (sym (sum-parts z image whole q hq) ∙ e)

-- ---- the page test

-- A page's bytes, as the code slices them.
pub page-taken : (z : Sizes) (image : List ℕ) (q : ℕ) → take (page_at z q + 32 - page_at z q) (drop (page_at z q) image) ≡ page z image q
page-taken z image q = ap (λ (n : ℕ). take n (drop (page_at z q) image)) (add-sub_cancel_left (page_at z q) 32)

module _ (z : Sizes) (image : List ℕ) (q : ℕ) where
  pub test-blank : blank_page z image q ≡ true → page_test z image q ≡ Blank
  unfolding page_test
  test-blank b = rw b

  pub test_good : blank_page z image q ≡ false → page_sum z image q ≡ 0 → page_test z image q ≡ Good
  unfolding page_test
  test_good b e = rw (b, eq-eqb (page_sum z image q) 0 e)

  pub test-wrong : blank_page z image q ≡ false → (page_sum z image q ≡ 0 → ⊥) → page_test z image q ≡ Wrong
  unfolding page_test
  test-wrong b e = rw (b, ne_eqb (page_sum z image q) 0 e)

  -- A good page adds up to 0.
  pub good-sum : is_good (page_test z image q) ≡ true → page_sum z image q ≡ 0
  good-sum e = go (blank_page z image q) refl (ℕ_discrete (page_sum z image q) 0)
    where
      go : (b : Bool) → blank_page z image q ≡ b → Dec (page_sum z image q ≡ 0) → page_sum z image q ≡ 0
      go b h (yes s) = s
      go true h (no s) = absurd (true≢false (sym e ∙ ap is_good (test-blank h)))
      go false h (no s) = absurd (true≢false (sym e ∙ ap is_good (test-wrong h s)))

pub ff-total : (bytes : List ℕ) → all_ff bytes ≡ true → total bytes ≡ 255 * length bytes
ff-total [] e = refl
ff-total (b ∷ bytes) e =
    let (first, others) = both (eqb b 0xFF) (all_ff bytes) e in
    omega (arith, eqb-true b 0xFF first, ff-total bytes others)

pub ff-at : (bytes : List ℕ) → all_ff bytes ≡ true → (i : ℕ) → i < length bytes → get_or bytes i 0 ≡ 255
ff-at [] e i h = absurd (omega arith)
ff-at (b ∷ bytes) e zero h = eqb-true b 0xFF (both (eqb b 0xFF) (all_ff bytes) e).0
ff-at (b ∷ bytes) e (suc i) h = ff-at bytes (both (eqb b 0xFF) (all_ff bytes) e).1 i (omega arith)

pub at-ff : (bytes : List ℕ) → ((i : ℕ) → i < length bytes → get_or bytes i 0 ≡ 255) → all_ff bytes ≡ true
at-ff [] f = refl
at-ff (b ∷ bytes) f = rw (eq-eqb b 0xFF (f 0 (omega arith))) (at-ff bytes (λ i h. f (suc i) (omega arith)))

module _ (z : Sizes) (image : List ℕ) (whole : length image ≡ image_bytes z) (q : ℕ) (hq : q < z.pages) where
  page-length : length (page z image q) ≡ 32
  page-length = length-take-le 32 (drop (page_at z q) image) (omega (arith, length-drop (page_at z q) image))

  -- Each byte of a blank page is FF.
  pub blank-at : blank_page z image q ≡ true → (i : ℕ) → i < 32 → get_or image (page_at z q + i) 0 ≡ 255
  blank-at e i h =
      sym (get_or-drop (page_at z q) image i 0) ∙ sym (get_or-take 32 (drop (page_at z q) image) i 0 h) ∙ ff-at (page z image q) e i (omega (arith, page-length))

  pub at-blank : ((i : ℕ) → i < 32 → get_or image (page_at z q + i) 0 ≡ 255) → blank_page z image q ≡ true
  at-blank f =
      at-ff (page z image q) (λ i h.
      get_or-take 32 (drop (page_at z q) image) i 0 (omega (arith, page-length)) ∙ get_or-drop (page_at z q) image i 0 ∙ f i (omega (arith, page-length)))

-- A page after the first that adds up to 0 is not blank: 32 times 255 is not 0 modulo 256.
later-sum : (z : Sizes) (image : List ℕ) → length image ≡ image_bytes z → (q : ℕ) → suc q < z.pages → page_sum z image (suc q) ≡ 0 → blank_page z image (suc q) ≡ false
later-sum z image whole q hq e = go (blank_page z image (suc q)) refl
  where
    go : (b : Bool) → blank_page z image (suc q) ≡ b → blank_page z image (suc q) ≡ false
    go false h = h
    go true h =
        let n : total (page z image (suc q)) ≡ 8160 = ff-total (page z image (suc q)) h ∙ ap (λ (n : ℕ). 255 * n) (page-length z image whole (suc q) hq) in
        let x : page_sum z image (suc q) ≡ 224 = ap (λ (t : ℕ). t % 256) n in
        absurd (omega (arith, e, x))

-- ---- the check of all pages

-- A property of page i and of every page after it.
from : (P : ℕ → Type 0) {i q : ℕ} → P i → (suc i ≤ q → P q) → i ≤ q → Dec (i ≡ q) → P q
from P first others h (yes d) = subst P d first
from P first others h (no d) = others (lt_of_le-ne h d)

module _ (z : Sizes) (image : List ℕ) where
  step-good : (n i : ℕ) → is_good (page_test z image i) ≡ true → sums_from z image (suc n) i ≡ sums_from z image n (suc i)
  unfolding sums_from
  step-good n i e = rw e

  step-wrong : (n i : ℕ) → is_good (page_test z image i) ≡ false → sums_from z image (suc n) i ≡ Err (WrongSum i)
  unfolding sums_from
  step-wrong n i e = rw e

  step-blank : (n i : ℕ) → blank_page z image i ≡ true → blank_from z image (suc n) i ≡ blank_from z image n (suc i)
  unfolding blank_from
  step-blank n i e = rw e

  step-written : (n i : ℕ) → blank_page z image i ≡ false → blank_from z image (suc n) i ≡ false
  unfolding blank_from
  step-written n i e = rw e

  -- One of the pages from page i on, in the order of the loop.
  module _ (n i : ℕ) (h : i < n) where
    left : n - i ≡ suc (n - (i + 1))
    left = omega arith

    pub turn-good : is_good (page_test z image i) ≡ true → sums_from z image (n - i) i ≡ sums_from z image (n - (i + 1)) (i + 1)
    turn-good e = rw (left, add-one i) (step-good (n - suc i) i e)

    pub turn-wrong : is_good (page_test z image i) ≡ false → sums_from z image (n - i) i ≡ Err (WrongSum i)
    turn-wrong e = rw left (step-wrong (n - (i + 1)) i e)

    pub turn-blank : blank_page z image i ≡ true → blank_from z image (n - i) i ≡ blank_from z image (n - (i + 1)) (i + 1)
    turn-blank e = rw (left, add-one i) (step-blank (n - suc i) i e)

    pub turn-written : blank_page z image i ≡ false → blank_from z image (n - i) i ≡ false
    turn-written e = rw left (step-written (n - (i + 1)) i e)

  pub blank-all : (n i : ℕ) → blank_from z image n i ≡ true → (q : ℕ) → i ≤ q → q < i + n → blank_page z image q ≡ true
  unfolding blank_from
  blank-all zero i e q h k = absurd (omega arith)
  blank-all (suc n) i e q h k =
      let (first, others) = both (blank_page z image i) (blank_from z image n (suc i)) e in
      from (λ (p : ℕ). blank_page z image p ≡ true) first (λ j. blank-all n (suc i) others q j (omega arith)) h (ℕ_discrete i q)

  pub all-blank : (n i : ℕ) → ((q : ℕ) → i ≤ q → q < i + n → blank_page z image q ≡ true) → blank_from z image n i ≡ true
  unfolding blank_from
  all-blank zero i f = refl
  all-blank (suc n) i f = step-blank n i (f i (le_refl i) (omega arith)) ∙ all-blank n (suc i) (λ q h k. f q (omega arith) (omega arith))

  good-from : (n i : ℕ) → sums_from z image n i ≡ Ok tt → (q : ℕ) → i ≤ q → q < i + n → is_good (page_test z image q) ≡ true
  unfolding sums_from
  good-from zero i e q h k = absurd (omega arith)
  good-from (suc n) i e q h k =
      let (first, others) = passed (WrongSum i) (not (is_good (page_test z image i))) (sums_from z image n (suc i)) tt e in
      from (λ (p : ℕ). is_good (page_test z image p) ≡ true) (not-false _ first) (λ j. good-from n (suc i) others q j (omega arith)) h (ℕ_discrete i q)

  from-good : (n i : ℕ) → ((q : ℕ) → i ≤ q → q < i + n → is_good (page_test z image q) ≡ true) → sums_from z image n i ≡ Ok tt
  unfolding sums_from
  from-good zero i f = refl
  from-good (suc n) i f = step-good n i (f i (le_refl i) (omega arith)) ∙ from-good n (suc i) (λ q h k. f q (omega arith) (omega arith))

  pub sums-other : (n i : ℕ) → Other (sums_from z image n i)
  unfolding sums_from
  sums-other zero i = tt
  sums-other (suc n) i = other-then (WrongSum i) (not (is_good (page_test z image i))) _ (omega arith) (sums-other n (suc i))

  -- If the check accepts, every page adds up to 0.
  pub sums-right : sums z image ≡ Ok tt → SumsRight z image
  sums-right e q h =
      let (b, s) = passed BlankChip (blank_from z image z.pages 0) (sums_from z image z.pages 0) tt e in
      good-sum z image q (good-from z.pages 0 s q (omega arith) (omega arith))

-- The check accepts an image whose every page adds up to 0, if its first page
-- is not blank. With the register, a blank first page may add up to 0 too.
pub right-sums : (z : Sizes) (image : List ℕ) → length image ≡ image_bytes z → 1 ≤ z.pages → SumsRight z image → blank_page z image 0 ≡ false →
    sums z image ≡ Ok tt
right-sums z image whole paged right first =
    ap (λ (b : Bool). refuse BlankChip if b >> sums_from z image z.pages 0) written
    ∙ from-good z image z.pages 0 (λ q h k. ap is_good (test_good z image q (unblank q (omega arith)) (right q (omega arith))))
  where
    unblank : (q : ℕ) → q < z.pages → blank_page z image q ≡ false
    unblank zero h = first
    unblank (suc q) h = later-sum z image whole q h (right (suc q) h)

    go : (b : Bool) → blank_from z image z.pages 0 ≡ b → blank_from z image z.pages 0 ≡ false
    go false e = e
    go true e = absurd (true≢false (sym (blank-all z image z.pages 0 e 0 (omega arith) (omega arith)) ∙ first))

    written : blank_from z image z.pages 0 ≡ false
    written = go (blank_from z image z.pages 0) refl

-- The first page is not blank if some bit 0 of a byte of its stream is 0.
pub unblank-bit : (z : Sizes) (image : List ℕ) → length image ≡ image_bytes z → Bytes image → 1 ≤ z.pages →
    (i : ℕ) → z.register ≤ i → i < z.register + 31 → bit (stream_number z image) (8 * i) ≡ 0 → blank_page z image 0 ≡ false
unblank-bit z image whole bytes paged i least most e = go (blank_page z image 0) refl
  where
    at : stream_index z i ≡ page_at z 0 + (i - z.register + 1)
    at = omega (arith, index-page z i least)

    lowest : bit (stream_number z image) (8 * i) ≡ bit (get_or image (stream_index z i) 0) 0
    lowest =
        let byte : 8 * i / 8 ≡ i = omega arith in
        let first : 8 * i % 8 ≡ 0 = omega arith in
        stream-bit z image whole bytes (8 * i) (omega arith) ∙ ap₂ (λ (j k : ℕ). bit (get_or image (stream_index z j) 0) k) byte first

    go : (b : Bool) → blank_page z image 0 ≡ b → blank_page z image 0 ≡ false
    go false h = h
    go true h =
        let ones : get_or image (stream_index z i) 0 ≡ 255 = ap (λ (j : ℕ). get_or image j 0) at ∙ blank-at z image whole 0 (omega arith) h (i - z.register + 1) (omega arith) in
        let x : bit 255 0 ≡ 0 = sym (ap (λ (b : ℕ). bit b 0) ones) ∙ sym lowest ∙ e in
        absurd (omega (arith, x))
