-- Laws of the offset of stream bits in an image, and of its bytes as words of eight.
use Rattle.stream.proofs.Names.{◌≡◌, sym, ap, ap₂, ◌∙◌, List, ℕ, zero, suc, ◌+◌, ◌-◌, ◌*◌, ◌/◌, ◌%◌, ◌^◌, ◌≤◌, ◌<◌, mod-one, mod-lt, mod-eq_of_lt, lt_of_le_of_lt, arith, dec_lt, w64, Fits, length, get_or, lit<}
use Rattle.stream.proofs.Names.{bit_or, bit_and, or_shifted_r, pow_pos, high, low, mod-pow-add, shr-shr, shr_lt, shr_le, shl_exact, Sizes, Bytes, number, field_at, image_bytes, stream_bytes, stream_bits, stream_of}
use Rattle.stream.proofs.Names.{stream_number, WholeImage, stream_index, InStream, field_lt, field-add, field-field, number_lt, number_at, index-register, index-page, index-lt, stream-length, stream_at}
use Rattle.stream.proofs.Names.{stream-bytes}
use Rattle.stream.proofs.Words.{low_bits}

-- ---- eight bytes as one word

-- Each of eight bytes is inside the image, and its index fits a usize.
pub eight-in : (f k n : ℕ) → f + 8 ≤ n → k < 8 → f + k < n
eight-in f k n h l = omega arith

pub eight_fits : (f k n : ℕ) → f + 8 ≤ n → n < 2 ^ 64 → k < 8 → Fits w64 (f + k)
eight_fits f k n h m l = record { fits = omega arith }

module _ (bytes : List ℕ) (hb : Bytes bytes) (f : ℕ) where
  -- One more byte above those joined.
  pub join-turn : (k word b : ℕ) → f + k < length bytes → k < 8 → word ≡ field_at (number bytes) (8 * f) (8 * k) → b ≡ get_or bytes (f + k) 0
      → bit_or word (b * 2 ^ (8 * k) % 2 ^ 64) ≡ field_at (number bytes) (8 * f) (8 * (k + 1))
  join-turn k word b hi hk e d =
      let N : ℕ = number bytes in
      let g : b ≡ field_at N (8 * f + 8 * k) 8 =
      d ∙ sym (number_at bytes hb (f + k) hi) ∙ ap (λ (x : ℕ). field_at N x 8) (omega arith) in
      let hw : word < 2 ^ (8 * k) = rw e (field_lt N (8 * f) (8 * k)) in
      ap (bit_or word) (shl_exact 8 (8 * k) 64 (rw d (hb (f + k))) (omega arith))
      ∙ or_shifted_r b (8 * k) word hw
      ∙ ap₂ (λ (x y : ℕ). x * 2 ^ (8 * k) + y) g e
      ∙ sym (field-add N (8 * f) 8 (8 * k))
      ∙ ap (λ (x : ℕ). field_at N (8 * f) x) (omega arith)

  -- All eight bytes joined.
  pub joined : (b0 b1 b2 b3 b4 b5 b6 b7 : ℕ) → f + 8 ≤ length bytes
      → b0 ≡ get_or bytes f 0 → b1 ≡ get_or bytes (f + 1) 0 → b2 ≡ get_or bytes (f + 2) 0 → b3 ≡ get_or bytes (f + 3) 0
      → b4 ≡ get_or bytes (f + 4) 0 → b5 ≡ get_or bytes (f + 5) 0 → b6 ≡ get_or bytes (f + 6) 0 → b7 ≡ get_or bytes (f + 7) 0
      → bit_or (bit_or (bit_or (bit_or (bit_or (bit_or (bit_or b0 (b1 * 2 ^ 8 % 2 ^ 64)) (b2 * 2 ^ 16 % 2 ^ 64)) (b3 * 2 ^ 24 % 2 ^ 64)) (b4 * 2 ^ 32 % 2 ^ 64)) (b5 * 2 ^ 40 % 2 ^ 64)) (b6 * 2 ^ 48 % 2 ^ 64)) (b7 * 2 ^ 56 % 2 ^ 64)
      ≡ field_at (number bytes) (8 * f) 64
  joined b0 b1 b2 b3 b4 b5 b6 b7 h e0 e1 e2 e3 e4 e5 e6 e7 =
      let w0 : b0 ≡ field_at (number bytes) (8 * f) 8 = e0 ∙ sym (number_at bytes hb f (omega arith)) in
      let w1 = join-turn 1 _ _ (eight-in f 1 _ h (lit< tt)) (lit< tt) w0 e1 in
      let w2 = join-turn 2 _ _ (eight-in f 2 _ h (lit< tt)) (lit< tt) w1 e2 in
      let w3 = join-turn 3 _ _ (eight-in f 3 _ h (lit< tt)) (lit< tt) w2 e3 in
      let w4 = join-turn 4 _ _ (eight-in f 4 _ h (lit< tt)) (lit< tt) w3 e4 in
      let w5 = join-turn 5 _ _ (eight-in f 5 _ h (lit< tt)) (lit< tt) w4 e5 in
      let w6 = join-turn 6 _ _ (eight-in f 6 _ h (lit< tt)) (lit< tt) w5 e6 in
      join-turn 7 _ _ (eight-in f 7 _ h (lit< tt)) (lit< tt) w6 e7

  -- The last eight bytes of the image, and those of them from byte f on.
  pub window-end : (last word : ℕ) → length bytes ≡ last + 8 → last ≤ f → word ≡ field_at (number bytes) (8 * last) 64 → word / 2 ^ (8 * (f - last)) ≡ field_at (number bytes) (8 * f) 64
  window-end last word e h ew =
      let N : ℕ = number bytes in
      let n : 8 * length bytes ≡ 64 + 8 * last = omega arith in
      let lt : N / 2 ^ (8 * last) < 2 ^ 64 = shr_lt 64 (8 * last) (rw (← n) (number_lt bytes hb)) in
      let to : N / 2 ^ (8 * last) / 2 ^ (8 * (f - last)) ≡ N / 2 ^ (8 * f) =
      shr-shr N (8 * last) (8 * (f - last)) ∙ ap (λ (x : ℕ). N / 2 ^ x) (omega arith) in
      ap (λ (x : ℕ). x / 2 ^ (8 * (f - last))) (ew ∙ mod-eq_of_lt lt) ∙ to
      ∙ sym (mod-eq_of_lt (rw (← to) (lt_of_le_of_lt (shr_le (N / 2 ^ (8 * last)) (8 * (f - last))) lt)))

-- ---- the offset of the stream's bytes

-- The offset of a byte that has c check bytes before it.
pub index_at : (z : Sizes) (c i : ℕ) → i < z.register + 31 * c → z.register + 31 * c ≤ i + 31 → stream_index z i ≡ i + c
index_at z c i h l = go (dec_lt i z.register)
  where
    go : Dec (i < z.register) → stream_index z i ≡ i + c
    go (yes s) = omega (arith, index-register z i s)
    go (no s) = omega (arith, index-page z i (omega arith))

-- The w bits of the stream from bit n on are adjacent in the image, with c check bytes before them.
pub record Side (z : Sizes) (c n w : ℕ) : Type 0 where
  pub inside : n + 8 * c + w ≤ 8 * image_bytes z
  pub behind : 8 * z.register + 248 * c ≤ n + 248
  pub before : n + w ≤ 8 * z.register + 248 * c

pub side-stream : {z : Sizes} {c n w : ℕ} → Side z c n w → n + w ≤ stream_bits z
side-stream s = omega arith

pub side-image : {z : Sizes} {image : List ℕ} {c n w : ℕ} (l bit : ℕ) → WholeImage z image → Side z c n w → l ≡ length image → bit ≡ n + 8 * c
    → (8 ≤ l) × (l < 2 ^ 32) × (bit + w ≤ 8 * l)
side-image l bit p s e b = (omega arith, omega arith, omega arith)

-- A field whose first byte has c check bytes before
-- it: all before the next check byte, or in two parts.
module _ {z : Sizes} {image : List ℕ} {at width : ℕ} (c : ℕ) (p : InStream z image at width) (h : (at / 8 < z.register + 31 * c) × (z.register + 31 * c ≤ at / 8 + 31)) where
  pub side : at + width ≤ 8 * z.register + 248 * c → Side z c at width
  side l = record { inside = omega arith; behind = omega arith; before = l }

  pub side-first : 8 * z.register + 248 * c < at + width → Side z c at (8 * z.register + 248 * c - at)
  side-first l = record { inside = omega arith; behind = omega arith; before = omega arith }

  pub side-rest : 8 * z.register + 248 * c < at + width → Side z (c + 1) (8 * z.register + 248 * c) (width - (8 * z.register + 248 * c - at))
  side-rest l = record { inside = omega arith; behind = omega arith; before = omega arith }

  -- Bytes from the field's first on: eight before the next check byte;
  -- or those before it and, of eight in the image, those after it.
  pub side-eight : at / 8 + 8 ≤ z.register + 31 * c → Side z c (8 * (at / 8)) 64
  side-eight l = record { inside = omega arith; behind = omega arith; before = omega arith }

  pub side-byte : Side z c (8 * (at / 8)) 8
  side-byte = record { inside = omega arith; behind = omega arith; before = omega arith }

  pub side-run : Side z c (8 * (at / 8)) (8 * (z.register + 31 * c - at / 8))
  side-run = record { inside = omega arith; behind = omega arith; before = omega arith }

  pub side-over : z.register + 31 * c < at / 8 + 8 → at / 8 + c + 8 ≤ length image → Side z (c + 1) (8 * (z.register + 31 * c)) (56 - 8 * (z.register + 31 * c - at / 8))
  side-over l m = record { inside = omega arith; behind = omega arith; before = omega arith }

module _ (z : Sizes) (image : List ℕ) (whole : length image ≡ image_bytes z) (hb : Bytes image) where
  -- Adjacent bytes are a field of the stream and of the image.
  pub run-field : (f at n : ℕ) → f + n ≤ stream_bytes z → ((k : ℕ) → k < n → stream_index z (f + k) ≡ at + k)
      → field_at (stream_number z image) (8 * f) (8 * n) ≡ field_at (number image) (8 * at) (8 * n)
  run-field f at zero h e = mod-one _ ∙ sym (mod-one _)
  run-field f at (suc n) h e =
      let N : ℕ = stream_number z image in
      let M : ℕ = number image in
      let i : ℕ = stream_index z (f + n) in
      let g : i ≡ at + n = e n (omega arith) in
      let b : field_at N (8 * f + 8 * n) 8 ≡ field_at M (8 * at + 8 * n) 8 =
      ap (λ (x : ℕ). field_at N x 8) (omega arith)
      ∙ number_at (stream_of z image) (stream-bytes z image whole hb) (f + n) (omega (arith, stream-length z image whole))
      ∙ stream_at z image whole (f + n) (omega arith)
      ∙ sym (number_at image hb i (omega (arith, index-lt z (f + n) (omega arith))))
      ∙ ap (λ (x : ℕ). field_at M x 8) (omega arith) in
      let w : 8 * suc n ≡ 8 + 8 * n = omega arith in
      ap (field_at N (8 * f)) w
      ∙ field-add N (8 * f) 8 (8 * n)
      ∙ ap₂ (λ (x y : ℕ). x * 2 ^ (8 * n) + y) b (run-field f at n (omega arith) (λ k l. e k (omega arith)))
      ∙ sym (field-add M (8 * at) 8 (8 * n))
      ∙ ap (field_at M (8 * at)) (sym w)

  -- Adjacent bits of the stream are a field of the image.
  pub run-bits : (c n w : ℕ) → Side z c n w → field_at (stream_number z image) n w ≡ field_at (number image) (n + 8 * c) w
  run-bits c n w s =
      let f : ℕ = n / 8 in
      let m : ℕ = (n % 8 + w + 7) / 8 in
      let N : ℕ = stream_number z image in
      let M : ℕ = number image in
      ap (λ (x : ℕ). field_at N x w) (omega arith)
      ∙ sym (field-field N (8 * f) (8 * m) (n % 8) w (omega arith))
      ∙ ap (λ (x : ℕ). field_at x (n % 8) w) (run-field f (f + c) m (omega (arith, side-stream s)) (λ k h. omega (arith, index_at z c (f + k) (omega arith) (omega arith))))
      ∙ field-field M (8 * (f + c)) (8 * m) (n % 8) w (omega arith)
      ∙ ap (λ (x : ℕ). field_at M x w) (omega arith)

  -- ---- reading a field from a word

  module _ (c at width word : ℕ) (most : width ≤ 49) (ew : word ≡ field_at (number image) (8 * (at / 8 + c)) 64) where
    -- A part of the word, from its bit for `at` on.
    part : (m v : ℕ) → v + (at % 8 + m) ≤ 64 → field_at (word / 2 ^ (at % 8)) m v ≡ field_at (number image) (at + 8 * c + m) v
    part m v h =
        ap (λ (x : ℕ). x % 2 ^ v) (shr-shr word (at % 8) m)
        ∙ ap (λ (x : ℕ). field_at x (at % 8 + m) v) ew
        ∙ field-field (number image) (8 * (at / 8 + c)) 64 (at % 8 + m) v h
        ∙ ap (λ (x : ℕ). field_at (number image) x v) (omega arith)

    first : (v : ℕ) → v ≤ 49 → Side z c at v → word / 2 ^ (at % 8) % 2 ^ v ≡ field_at (stream_number z image) at v
    first v h s =
        ap (λ (x : ℕ). field_at x (at % 8) v) ew
        ∙ field-field (number image) (8 * (at / 8 + c)) 64 (at % 8) v (omega arith)
        ∙ ap (λ (x : ℕ). field_at (number image) x v) (omega arith)
        ∙ sym (run-bits c at v s)

    pub take-near : Side z c at width → bit_and (word / 2 ^ (at % 8)) (1 * 2 ^ width % 2 ^ 64 - 1) ≡ field_at (stream_number z image) at width
    take-near s = low_bits (word / 2 ^ (at % 8)) width (omega arith) ∙ first width most s

    -- A field with a check byte before bit `edge` of the stream, which is removed from the word.
    pub take-far : (edge near : ℕ) → at < edge → edge < at + width → Side z c at (edge - at) → Side z (c + 1) edge (width - (edge - at))
        → near ≡ word / 2 ^ (at % 8) / 2 ^ (8 + (edge - at)) * 2 ^ (edge - at) + word / 2 ^ (at % 8) % 2 ^ (edge - at)
        → bit_and near (1 * 2 ^ width % 2 ^ 64 - 1) ≡ field_at (stream_number z image) at width
    take-far edge near before behind a b en =
        let s : ℕ = edge - at in
        let v : ℕ = width - s in
        let e : width ≡ v + s = omega arith in
        let W : ℕ = word / 2 ^ (at % 8) in
        let hi : ℕ = W / 2 ^ (8 + s) in
        let lt : W % 2 ^ s < 2 ^ s = mod-lt W (pow_pos s) in
        low_bits near width (omega arith)
        ∙ ap₂ (λ (x k : ℕ). x % 2 ^ k) en e
        ∙ mod-pow-add (hi * 2 ^ s + W % 2 ^ s) v s
        ∙ ap₂ (λ (x y : ℕ). x % 2 ^ v * 2 ^ s + y) (high hi s lt) (low hi s lt)
        ∙ ap₂ (λ (x y : ℕ). x * 2 ^ s + y)
        (part (8 + s) v (omega arith) ∙ ap (λ (x : ℕ). field_at (number image) x v) (omega arith) ∙ sym (run-bits (c + 1) edge v b) ∙ ap (λ (x : ℕ). field_at (stream_number z image) x v) (omega arith))
        (first s (omega arith) a)
        ∙ sym (field-add (stream_number z image) at v s)
        ∙ ap (field_at (stream_number z image) at) (sym e)
