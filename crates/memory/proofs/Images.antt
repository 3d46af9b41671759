-- Laws of the image of a stream: it has that stream and right sums, and no other image has them.
use Rattle.memory.proofs.Names.{◌≡◌, refl, sym, ap, ap₂, ◌∙◌, List, [], ◌∷◌, ◌++◌, ℕ, zero, suc, ◌+◌, ◌-◌, ◌*◌, ◌%◌, ◌^◌, ◌<◌, zero-add, mod-eq_of_lt, arith, length, take, drop, get_or, length-append, length-drop}
use Rattle.memory.proofs.Names.{take-append-drop, length-take-le, take_at, drop_at, drop-drop, take-add, get_or-drop, Ok, Sizes, Bytes, number, bytes_of, bit, image_bytes, stream_bytes, stream_bits, page_at, total}
use Rattle.memory.proofs.Names.{SumsRight, sums, check_byte, pages_stream, stream_of, stream_number, pages_of, with_right, image_of}
use Rattle.memory.proofs.Chips.{Chip}
use Rattle.memory.proofs.Digits.{bytes_take, bytes_drop, bytes-append, bytes-of, bytes-length, number-bytes}
use Rattle.memory.proofs.Streams.{get_d_past, bytes-stream, image-ext}
use Rattle.memory.proofs.SumLaws.{total-append, stream_part, sum-parts, check-right, check-lt, right-check, right-sums, unblank-bit}

-- ---- the pages

laid-length : (n sum : ℕ) (bytes : List ℕ) → length bytes ≡ 31 * n → length (pages_of n sum bytes) ≡ 32 * n
laid-length zero sum bytes h = refl
laid-length (suc n) sum bytes h =
    omega (
      arith,
      length-append (take 31 bytes) (pages_of n 0 (drop 31 bytes)),
      length-take-le 31 bytes (omega arith),
      laid-length n 0 (drop 31 bytes) (omega (arith, length-drop 31 bytes)),
    )

laid-stream : (n sum : ℕ) (bytes : List ℕ) → length bytes ≡ 31 * n → pages_stream n (pages_of n sum bytes) ≡ bytes
laid-stream zero sum [] h = refl
laid-stream zero sum (b ∷ bytes) h = absurd (omega arith)
laid-stream (suc n) sum bytes h =
    let m : length (take 31 bytes) ≡ 31 = length-take-le 31 bytes (omega arith) in
    let rest : List ℕ = pages_of n 0 (drop 31 bytes) in
    ap₂ (λ (x y : List ℕ). x ++ pages_stream n y) (take_at (take 31 bytes) rest 31 m) (drop_at (take 31 bytes) rest 31 m)
    ∙ ap (λ (x : List ℕ). take 31 bytes ++ x) (laid-stream n 0 (drop 31 bytes) (omega (arith, length-drop 31 bytes)))
    ∙ take-append-drop 31 bytes

-- The further sum that the first page's check byte covers.
abbrev further : ℕ → ℕ → ℕ
further sum zero = sum
further sum (suc q) = 0

laid-check : (n sum : ℕ) (bytes : List ℕ) → length bytes ≡ 31 * n → (q : ℕ) → q < n
    → get_or (pages_of n sum bytes) (32 * q) 0 ≡ check_byte (further sum q + total (take 31 (drop (31 * q) bytes)))
laid-check zero sum bytes h q k = absurd (omega arith)
laid-check (suc n) sum bytes h zero k = refl
laid-check (suc n) sum bytes h (suc q) k =
    let m : length (take 31 bytes) ≡ 31 = length-take-le 31 bytes (omega arith) in
    let rest : List ℕ = pages_of n 0 (drop 31 bytes) in
    let e : 32 * suc q ≡ suc (31 + 32 * q) = omega arith in
    let f : 31 + 31 * q ≡ 31 * suc q = omega arith in
    ap (λ (i : ℕ). get_or (pages_of (suc n) sum bytes) i 0) e
    ∙ sym (get_or-drop 31 (take 31 bytes ++ rest) (32 * q) 0) ∙ ap (λ (x : List ℕ). get_or x (32 * q) 0) (drop_at (take 31 bytes) rest 31 m)
    ∙ laid-check n 0 (drop 31 bytes) (omega (arith, length-drop 31 bytes)) q (omega arith)
    ∙ ap₂ (λ (x : ℕ) (y : List ℕ). check_byte (x + total (take 31 y))) (none q) (drop-drop (31 * q) 31 bytes ∙ ap (λ (i : ℕ). drop i bytes) f)
  where
    none : (q : ℕ) → further 0 q ≡ 0
    none zero = refl
    none (suc q) = refl

laid-bytes : (n sum : ℕ) (bytes : List ℕ) → Bytes bytes → Bytes (pages_of n sum bytes)
laid-bytes zero sum bytes h i = omega arith
laid-bytes (suc n) sum bytes h zero = check-lt (sum + total (take 31 bytes))
laid-bytes (suc n) sum bytes h (suc i) =
    bytes-append (take 31 bytes) _ (bytes_take 31 bytes h) (laid-bytes n 0 (drop 31 bytes) (bytes_drop 31 bytes h)) i

-- ---- the image of stream bytes

module _ (z : Sizes) (bytes : List ℕ) (long : length bytes ≡ stream_bytes z) where
  front : length (take z.register bytes) ≡ z.register
  front = length-take-le z.register bytes (omega arith)

  pages : length (drop z.register bytes) ≡ 31 * z.pages
  pages = omega (arith, length-drop z.register bytes)

  right-length : length (with_right z bytes) ≡ image_bytes z
  right-length =
      omega (
        arith,
        length-append (take z.register bytes) (pages_of z.pages (total (take z.register bytes)) (drop z.register bytes)),
        front,
        laid-length z.pages (total (take z.register bytes)) (drop z.register bytes) pages,
      )

  right-stream : stream_of z (with_right z bytes) ≡ bytes
  unfolding stream_of
  right-stream =
      let reg : List ℕ = take z.register bytes in
      let rest : List ℕ = pages_of z.pages (total reg) (drop z.register bytes) in
      ap₂ (λ (x y : List ℕ). x ++ pages_stream z.pages y) (take_at reg rest z.register front) (drop_at reg rest z.register front)
      ∙ ap (λ (x : List ℕ). reg ++ x) (laid-stream z.pages (total reg) (drop z.register bytes) pages)
      ∙ take-append-drop z.register bytes

  part-total : (q : ℕ) → further (total (take z.register bytes)) q + total (take 31 (drop (31 * q) (drop z.register bytes))) ≡ total (stream_part z bytes q)
  part-total zero =
      sym (ap total (take-add z.register 31 bytes) ∙ total-append (take z.register bytes) _)
  part-total (suc q) = zero-add _ ∙ ap (λ (x : List ℕ). total (take 31 x)) (drop-drop (31 * suc q) z.register bytes)

  right-byte : (q : ℕ) → q < z.pages → get_or (with_right z bytes) (page_at z q) 0 ≡ check_byte (total (stream_part z bytes q))
  right-byte q h =
      let reg : List ℕ = take z.register bytes in
      let rest : List ℕ = pages_of z.pages (total reg) (drop z.register bytes) in
      let e : page_at z q - z.register ≡ 32 * q = omega arith in
      get_d_past reg rest z.register (page_at z q) front (omega arith) ∙ ap (λ (i : ℕ). get_or rest i 0) e
      ∙ laid-check z.pages (total reg) (drop z.register bytes) pages q h ∙ ap check_byte (part-total q)

-- ---- the image of a stream

module _ (z : Sizes) (N : ℕ) where
  pub image-length : length (image_of z N) ≡ image_bytes z
  unfolding image_of
  image-length = right-length z (bytes_of (stream_bytes z) N) (bytes-length (stream_bytes z) N)

  pub image-bytes : Bytes (image_of z N)
  unfolding image_of
  image-bytes =
      let bytes : List ℕ = bytes_of (stream_bytes z) N in
      let hb : Bytes bytes = bytes-of (stream_bytes z) N in
      bytes-append (take z.register bytes) _ (bytes_take z.register bytes hb)
      (laid-bytes z.pages (total (take z.register bytes)) (drop z.register bytes) (bytes_drop z.register bytes hb))

  pub image-stream : stream_of z (image_of z N) ≡ bytes_of (stream_bytes z) N
  unfolding image_of
  image-stream = right-stream z (bytes_of (stream_bytes z) N) (bytes-length (stream_bytes z) N)

  -- The stream of the image of a stream.
  pub image-number : stream_number z (image_of z N) ≡ N % 2 ^ stream_bits z
  image-number = ap number image-stream ∙ number-bytes (stream_bytes z) N

  pub image-number-lt : N < 2 ^ stream_bits z → stream_number z (image_of z N) ≡ N
  image-number-lt h = image-number ∙ mod-eq_of_lt h

  image-check : (q : ℕ) → q < z.pages → get_or (image_of z N) (page_at z q) 0 ≡ check_byte (total (stream_part z (bytes_of (stream_bytes z) N) q))
  unfolding image_of
  image-check = right-byte z (bytes_of (stream_bytes z) N) (bytes-length (stream_bytes z) N)

  -- Every page of it adds up to 0.
  pub image-sums : SumsRight z (image_of z N)
  image-sums q h =
      let s : ℕ = total (stream_part z (bytes_of (stream_bytes z) N) q) in
      sum-parts z (image_of z N) image-length q h
      ∙ ap₂ (λ (x : ℕ) (y : List ℕ). (x + total (stream_part z y q)) % 256) (image-check q h) image-stream
      ∙ check-right s

  -- No other image has this stream and right sums.
  pub image-is : (l : List ℕ) → length l ≡ image_bytes z → Bytes l → SumsRight z l → stream_number z l ≡ N → l ≡ image_of z N
  image-is l wl hb s e =
      let f : stream_of z l ≡ bytes_of (stream_bytes z) N = sym (bytes-stream z l wl hb) ∙ ap (bytes_of (stream_bytes z)) e in
      image-ext z l (image_of z N) wl image-length (f ∙ sym image-stream)
      (λ q h. right-check z l wl hb q h (s q h) ∙ ap (λ (x : List ℕ). check_byte (total (stream_part z x q))) f ∙ sym (image-check q h))

-- The page test accepts the image if bit 64 of its stream
-- is 0. That bit is in the first page of every chip.
pub image-passes : (z : Sizes) (bytes : ℕ) → Chip z bytes → (N : ℕ) → N < 2 ^ stream_bits z → bit N 64 ≡ 0 → sums z (image_of z N) ≡ Ok tt
image-passes z bytes chip N small e =
    right-sums z (image_of z N) (image-length z N) chip.paged (image-sums z N)
    (unblank-bit z (image_of z N) (image-length z N) (image-bytes z N) chip.paged 8 chip.few (omega arith) (ap (λ (n : ℕ). bit n 64) (image-number-lt z N small) ∙ e))

-- An image with right sums is the image of its stream.
pub two-views : (z : Sizes) (image : List ℕ) → length image ≡ image_bytes z → Bytes image → SumsRight z image → image_of z (stream_number z image) ≡ image
two-views z image whole hb s = sym (image-is z (stream_number z image) image whole hb s refl)
