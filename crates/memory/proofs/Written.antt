-- Laws of an image with another stream, and of one with a
-- field put: what it holds, and that no other image holds it.
use Rattle.memory.proofs.Names.{◌≡◌, refl, sym, ap, ap₂, ◌∙◌, List, [], ◌∷◌, ◌++◌, ℕ, zero, suc, ◌+◌, ◌-◌, ◌*◌, ◌%◌, ◌^◌, ◌≤◌, ◌<◌, mod-eq_of_lt, arith, dec_lt, length, take, drop, get_or, length-append, length-drop}
use Rattle.memory.proofs.Names.{take-append-drop, get_or-eq_default, length-take-le, take_at, drop_at, drop-drop, get_or-take, get_or-drop, Sizes, Bytes, number, bytes_of, put_at, image_bytes, stream_bytes, stream_bits}
use Rattle.memory.proofs.Names.{page_at, pages_stream, stream_of, stream_number, pages_with, with_stream, put_in}
use Rattle.memory.proofs.FieldLaws.{put-lt}
use Rattle.memory.proofs.Digits.{bytes_take, bytes_drop, bytes-append, bytes-of, bytes-length, number-bytes}
use Rattle.memory.proofs.Streams.{get_d_front, get_d_past, stream-lt, bytes-stream, image-ext}

-- ---- the pages

abbrev rest : ℕ → List ℕ → List ℕ → List ℕ
rest n image bytes = pages_with n (drop 32 image) (drop 31 bytes)

module _ (n : ℕ) (image bytes : List ℕ) (hi : length image ≡ 32 * suc n) (hb : length bytes ≡ 31 * suc n) where
  one : length (take 1 image) ≡ 1
  one = length-take-le 1 image (omega arith)

  body : length (take 31 bytes) ≡ 31
  body = length-take-le 31 bytes (omega arith)

  first : drop 1 (pages_with (suc n) image bytes) ≡ take 31 bytes ++ rest n image bytes
  first = drop_at (take 1 image) (take 31 bytes ++ rest n image bytes) 1 one

  next : drop 32 (pages_with (suc n) image bytes) ≡ rest n image bytes
  next = sym (drop-drop 31 1 (pages_with (suc n) image bytes)) ∙ ap (drop 31) first ∙ drop_at (take 31 bytes) (rest n image bytes) 31 body

with-length : (n : ℕ) (image bytes : List ℕ) → length image ≡ 32 * n → length bytes ≡ 31 * n → length (pages_with n image bytes) ≡ 32 * n
with-length zero image bytes hi hb = refl
with-length (suc n) image bytes hi hb =
    omega (
      arith,
      length-append (take 1 image) (take 31 bytes ++ rest n image bytes),
      length-append (take 31 bytes) (rest n image bytes),
      one n image bytes hi hb,
      body n image bytes hi hb,
      with-length n (drop 32 image) (drop 31 bytes) (omega (arith, length-drop 32 image)) (omega (arith, length-drop 31 bytes)),
    )

with-stream : (n : ℕ) (image bytes : List ℕ) → length image ≡ 32 * n → length bytes ≡ 31 * n → pages_stream n (pages_with n image bytes) ≡ bytes
with-stream zero image [] hi hb = refl
with-stream zero image (b ∷ bytes) hi hb = absurd (omega arith)
with-stream (suc n) image bytes hi hb =
    ap₂ (λ (x y : List ℕ). take 31 x ++ pages_stream n y) (first n image bytes hi hb) (next n image bytes hi hb)
    ∙ ap₂ (λ (x y : List ℕ). x ++ y) (take_at (take 31 bytes) (rest n image bytes) 31 (body n image bytes hi hb))
    (with-stream n (drop 32 image) (drop 31 bytes) (omega (arith, length-drop 32 image)) (omega (arith, length-drop 31 bytes)))
    ∙ take-append-drop 31 bytes

with-check : (n : ℕ) (image bytes : List ℕ) → length image ≡ 32 * n → length bytes ≡ 31 * n → (q : ℕ) → q < n
    → get_or (pages_with n image bytes) (32 * q) 0 ≡ get_or image (32 * q) 0
with-check zero image bytes hi hb q h = absurd (omega arith)
with-check (suc n) image bytes hi hb zero h =
    get_d_front (take 1 image) (take 31 bytes ++ rest n image bytes) 1 0 (one n image bytes hi hb) (omega arith) ∙ get_or-take 1 image 0 0 (omega arith)
with-check (suc n) image bytes hi hb (suc q) h =
    let l : List ℕ = pages_with (suc n) image bytes in
    let e : 32 * suc q ≡ 32 + 32 * q = omega arith in
    ap (λ (i : ℕ). get_or l i 0) e ∙ sym (get_or-drop 32 l (32 * q) 0) ∙ ap (λ (x : List ℕ). get_or x (32 * q) 0) (next n image bytes hi hb)
    ∙ with-check n (drop 32 image) (drop 31 bytes) (omega (arith, length-drop 32 image)) (omega (arith, length-drop 31 bytes)) q (omega arith)
    ∙ get_or-drop 32 image (32 * q) 0 ∙ ap (λ (i : ℕ). get_or image i 0) (sym e)

with-bytes : (n : ℕ) (image bytes : List ℕ) → Bytes image → Bytes bytes → Bytes (pages_with n image bytes)
with-bytes zero image bytes hi hb = λ i. omega arith
with-bytes (suc n) image bytes hi hb =
    bytes-append (take 1 image) _ (bytes_take 1 image hi)
    (bytes-append (take 31 bytes) _ (bytes_take 31 bytes hb) (with-bytes n (drop 32 image) (drop 31 bytes) (bytes_drop 32 image hi) (bytes_drop 31 bytes hb)))

-- ---- an image with another stream

module _ (z : Sizes) (image : List ℕ) (whole : length image ≡ image_bytes z) (N : ℕ) where
  abbrev all : List ℕ
  all = bytes_of (stream_bytes z) N

  front_length : length (take z.register all) ≡ z.register
  front_length = length-take-le z.register all (omega (arith, bytes-length (stream_bytes z) N))

  pages-image : length (drop z.register image) ≡ 32 * z.pages
  pages-image = omega (arith, length-drop z.register image)

  pages-bytes : length (drop z.register all) ≡ 31 * z.pages
  pages-bytes = omega (arith, length-drop z.register all, bytes-length (stream_bytes z) N)

  pub written-length : length (with_stream z image N) ≡ image_bytes z
  unfolding with_stream
  written-length =
      omega (
        arith,
        length-append (take z.register all) (pages_with z.pages (drop z.register image) (drop z.register all)),
        front_length,
        with-length z.pages (drop z.register image) (drop z.register all) pages-image pages-bytes,
      )

  pub written-stream : stream_of z (with_stream z image N) ≡ bytes_of (stream_bytes z) N
  unfolding with_stream stream_of
  written-stream =
      let front : List ℕ = take z.register all in
      let pages : List ℕ = pages_with z.pages (drop z.register image) (drop z.register all) in
      ap₂ (λ (x y : List ℕ). x ++ pages_stream z.pages y) (take_at front pages z.register front_length) (drop_at front pages z.register front_length)
      ∙ ap (λ (x : List ℕ). front ++ x) (with-stream z.pages (drop z.register image) (drop z.register all) pages-image pages-bytes)
      ∙ take-append-drop z.register all

  pub written-number : stream_number z (with_stream z image N) ≡ N % 2 ^ stream_bits z
  written-number = ap number written-stream ∙ number-bytes (stream_bytes z) N

  -- Every check byte is unchanged.
  pub written-check : (q : ℕ) → get_or (with_stream z image N) (page_at z q) 0 ≡ get_or image (page_at z q) 0
  unfolding with_stream
  written-check q = go (dec_lt q z.pages)
    where
      go : Dec (q < z.pages) → get_or (with_stream z image N) (page_at z q) 0 ≡ get_or image (page_at z q) 0
      go (yes s) =
          let e : page_at z q - z.register ≡ 32 * q = omega arith in
          get_d_past (take z.register all) (pages_with z.pages (drop z.register image) (drop z.register all)) z.register (page_at z q) front_length (omega arith)
          ∙ ap (λ (i : ℕ). get_or (pages_with z.pages (drop z.register image) (drop z.register all)) i 0) e
          ∙ with-check z.pages (drop z.register image) (drop z.register all) pages-image pages-bytes q s
          ∙ get_or-drop z.register image (32 * q) 0
      go (no s) =
          get_or-eq_default (with_stream z image N) 0 {n = page_at z q} (omega (arith, written-length))
          ∙ sym (get_or-eq_default image 0 {n = page_at z q} (omega arith))

  pub written-bytes : Bytes image → Bytes (with_stream z image N)
  unfolding with_stream
  written-bytes h =
      bytes-append (take z.register all) _ (bytes_take z.register all (bytes-of (stream_bytes z) N))
      (with-bytes z.pages (drop z.register image) (drop z.register all) (bytes_drop z.register image h) (bytes_drop z.register all (bytes-of (stream_bytes z) N)))

  -- No other image has this stream and these check bytes.
  pub written_is : (l : List ℕ) → length l ≡ image_bytes z → Bytes l → stream_number z l ≡ N
      → ((q : ℕ) → get_or l (page_at z q) 0 ≡ get_or image (page_at z q) 0) → l ≡ with_stream z image N
  written_is l wl hb e c =
      image-ext z l (with_stream z image N) wl written-length (sym (bytes-stream z l wl hb) ∙ ap (bytes_of (stream_bytes z)) e ∙ sym written-stream)
      (λ q h. c q ∙ sym (written-check q))

-- ---- an image with a field put

module _ (z : Sizes) (image : List ℕ) (at w code : ℕ) where
  -- What a put to `image` leaves.
  pub record Put (after : List ℕ) : Type 0 where
    pub long : length after ≡ length image
    pub bytes : Bytes after
    pub stream : stream_number z after ≡ put_at (stream_number z image) at w code
    pub checks : (q : ℕ) → get_or after (page_at z q) 0 ≡ get_or image (page_at z q) 0

  module _ (whole : length image ≡ image_bytes z) where
    pub put_whole : length (put_in z image at w code) ≡ image_bytes z
    put_whole = written-length z image whole (put_at (stream_number z image) at w code)

    pub put-checks : (q : ℕ) → get_or (put_in z image at w code) (page_at z q) 0 ≡ get_or image (page_at z q) 0
    put-checks = written-check z image whole (put_at (stream_number z image) at w code)

    pub put-bytes : Bytes image → Bytes (put_in z image at w code)
    put-bytes = written-bytes z image whole (put_at (stream_number z image) at w code)

    pub put-stream : Bytes image → at + w ≤ stream_bits z → code < 2 ^ w → stream_number z (put_in z image at w code) ≡ put_at (stream_number z image) at w code
    put-stream hb h hc =
        written-number z image whole (put_at (stream_number z image) at w code)
        ∙ mod-eq_of_lt (put-lt (stream_number z image) at w code hc (stream_bits z) (stream-lt z image whole hb) h)

    pub put_is : {after : List ℕ} → Put after → after ≡ put_in z image at w code
    put_is {after} p = written_is z image whole (put_at (stream_number z image) at w code) after (p.long ∙ whole) p.bytes p.stream p.checks
