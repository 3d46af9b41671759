-- Laws of the offset of each stream byte in an image.
use Rattle.memory.proofs.Names.{◌≡◌, refl, sym, ap, ◌∙◌, List, ◌++◌, ℕ, zero, suc, ◌+◌, ◌-◌, ◌*◌, ◌/◌, ◌%◌, ◌^◌, ◌≤◌, ◌<◌, arith, dec_lt, ℕ_discrete, length, take, drop, get_or, set, length-append, length-drop}
use Rattle.memory.proofs.Names.{length-set, get_or-append, get_or-eq_default, length-take-le, get_or-append-add, get_or-take, get_or-drop, get_or-set_same, get_or-set_other, ext_get_or, lt-ltb, le-ltb, Sizes, Bytes}
use Rattle.memory.proofs.Names.{bytes_of, bit, image_bytes, stream_bytes, stream_bits, page_at, pages_stream, stream_of, stream_number, stream_index}
use Rattle.memory.proofs.Digits.{number_lt, bytes-number, bit_at}

-- ---- two lists, one after the other

pub get_d_front : (l k : List ℕ) (n i : ℕ) → length l ≡ n → i < n → get_or (l ++ k) i 0 ≡ get_or l i 0
get_d_front l k n i e h = get_or-append l k 0 i (omega arith)

pub get_d_past : (l k : List ℕ) (n i : ℕ) → length l ≡ n → n ≤ i → get_or (l ++ k) i 0 ≡ get_or k (i - n) 0
get_d_past l k n i e h = ap (λ (j : ℕ). get_or (l ++ k) j 0) (omega arith) ∙ get_or-append-add l k (i - n) 0

-- ---- the pages

pub body-length : (bytes : List ℕ) → 32 ≤ length bytes → length (take 31 (drop 1 bytes)) ≡ 31
body-length bytes h = length-take-le 31 (drop 1 bytes) (omega (arith, length-drop 1 bytes))

pub pages-length : (n : ℕ) (bytes : List ℕ) → 32 * n ≤ length bytes → length (pages_stream n bytes) ≡ 31 * n
pages-length zero bytes h = refl
pages-length (suc n) bytes h =
    omega (
      arith,
      length-append (take 31 (drop 1 bytes)) (pages_stream n (drop 32 bytes)),
      body-length bytes (omega arith),
      pages-length n (drop 32 bytes) (omega (arith, length-drop 32 bytes)),
    )

pages-at : (n : ℕ) (bytes : List ℕ) (j : ℕ) → 32 * n ≤ length bytes → j < 31 * n → get_or (pages_stream n bytes) j 0 ≡ get_or bytes (j + j / 31 + 1) 0
pages-at zero bytes j h k = absurd (omega arith)
pages-at (suc n) bytes j h k = go (pages-at n (drop 32 bytes) (j - 31)) (dec_lt j 31)
  where
    go : (32 * n ≤ length (drop 32 bytes) → j - 31 < 31 * n → get_or (pages_stream n (drop 32 bytes)) (j - 31) 0 ≡ get_or (drop 32 bytes) (j - 31 + (j - 31) / 31 + 1) 0)
        → Dec (j < 31) → get_or (pages_stream (suc n) bytes) j 0 ≡ get_or bytes (j + j / 31 + 1) 0
    go ih (yes s) =
        get_d_front (take 31 (drop 1 bytes)) (pages_stream n (drop 32 bytes)) 31 j (body-length bytes (omega arith)) s
        ∙ get_or-take 31 (drop 1 bytes) j 0 s ∙ get_or-drop 1 bytes j 0 ∙ ap (λ (i : ℕ). get_or bytes i 0) (omega arith)
    go ih (no s) =
        get_d_past (take 31 (drop 1 bytes)) (pages_stream n (drop 32 bytes)) 31 j (body-length bytes (omega arith)) (omega arith)
        ∙ ih (omega (arith, length-drop 32 bytes)) (omega arith)
        ∙ get_or-drop 32 bytes _ 0 ∙ ap (λ (i : ℕ). get_or bytes i 0) (omega arith)

-- ---- the offset of a byte of the stream

module _ (z : Sizes) where
  pub index-register : (i : ℕ) → i < z.register → stream_index z i ≡ i
  index-register i h = simp (lt-ltb i z.register h)

  pub index-page : (i : ℕ) → z.register ≤ i → stream_index z i ≡ i + (i - z.register) / 31 + 1
  index-page i h = simp (le-ltb i z.register h)

  pub index-lt : (i : ℕ) → i < stream_bytes z → stream_index z i < image_bytes z
  index-lt i k = go (dec_lt i z.register)
    where
      go : Dec (i < z.register) → stream_index z i < image_bytes z
      go (yes s) = omega (arith, index-register i s)
      go (no s) = omega (arith, index-page i (omega arith))

  index-mono : (i j : ℕ) → i < j → stream_index z i < stream_index z j
  index-mono i j h = go (dec_lt i z.register) (dec_lt j z.register)
    where
      go : Dec (i < z.register) → Dec (j < z.register) → stream_index z i < stream_index z j
      go (yes s) (yes t) = omega (arith, index-register i s, index-register j t)
      go (yes s) (no t) = omega (arith, index-register i s, index-page j (omega arith))
      go (no s) (yes t) = absurd (omega arith)
      go (no s) (no t) = omega (arith, index-page i (omega arith), index-page j (omega arith))

  pub index-inj : (i j : ℕ) → stream_index z i ≡ stream_index z j → i ≡ j
  index-inj i j e = go (dec_lt i j) (dec_lt j i)
    where
      go : Dec (i < j) → Dec (j < i) → i ≡ j
      go (yes s) t = absurd (omega (arith, index-mono i j s))
      go (no s) (yes t) = absurd (omega (arith, index-mono j i t))
      go (no s) (no t) = omega arith

  -- No byte of the stream is a check byte.
  pub index-check : (i q : ℕ) → stream_index z i ≡ page_at z q → ⊥
  index-check i q e = go (dec_lt i z.register)
    where
      go : Dec (i < z.register) → ⊥
      go (yes s) = omega (arith, index-register i s)
      go (no s) = omega (arith, index-page i (omega arith))

  -- Each byte of an image is a byte of the stream or a check byte.
  pub data Valid (j : ℕ) : Type 0 where
    check : (q : ℕ) → q < z.pages → j ≡ page_at z q → Valid j
    stream : (i : ℕ) → i < stream_bytes z → j ≡ stream_index z i → Valid j

  pub stands : (j : ℕ) → j < image_bytes z → Valid j
  stands j h = go (dec_lt j z.register) (ℕ_discrete ((j - z.register) % 32) 0)
    where
      go : Dec (j < z.register) → Dec ((j - z.register) % 32 ≡ 0) → Valid j
      go (yes s) d = stream j (omega arith) (sym (index-register j s))
      go (no s) (yes d) = check ((j - z.register) / 32) (omega arith) (omega arith)
      go (no s) (no d) = stream (j - (j - z.register) / 32 - 1) (omega arith) (omega (arith, index-page (j - (j - z.register) / 32 - 1) (omega arith)))

-- ---- the stream of an image

module _ (z : Sizes) (image : List ℕ) (whole : length image ≡ image_bytes z) where
  pub register-length : length (take z.register image) ≡ z.register
  register-length = length-take-le z.register image (omega arith)

  pub stream-length : length (stream_of z image) ≡ stream_bytes z
  unfolding stream_of
  stream-length =
      omega (
        arith,
        length-append (take z.register image) (pages_stream z.pages (drop z.register image)),
        register-length,
        pages-length z.pages (drop z.register image) (omega (arith, length-drop z.register image)),
      )

  pub stream_at : (i : ℕ) → i < stream_bytes z → get_or (stream_of z image) i 0 ≡ get_or image (stream_index z i) 0
  unfolding stream_of
  stream_at i k = go (dec_lt i z.register)
    where
      go : Dec (i < z.register) → get_or (stream_of z image) i 0 ≡ get_or image (stream_index z i) 0
      go (yes s) =
          get_d_front (take z.register image) (pages_stream z.pages (drop z.register image)) z.register i register-length s
          ∙ get_or-take z.register image i 0 s ∙ ap (λ (x : ℕ). get_or image x 0) (sym (index-register z i s))
      go (no s) =
          get_d_past (take z.register image) (pages_stream z.pages (drop z.register image)) z.register i register-length (omega arith)
          ∙ pages-at z.pages (drop z.register image) (i - z.register) (omega (arith, length-drop z.register image)) (omega arith)
          ∙ get_or-drop z.register image _ 0 ∙ ap (λ (x : ℕ). get_or image x 0) (omega (arith, index-page z i (omega arith)))

  module _ (hb : Bytes image) where
    pub stream-bytes : Bytes (stream_of z image)
    stream-bytes i = go (dec_lt i (stream_bytes z))
      where
        go : Dec (i < stream_bytes z) → get_or (stream_of z image) i 0 < 256
        go (yes s) = rw (stream_at i s) (hb (stream_index z i))
        go (no s) = rw (get_or-eq_default (stream_of z image) 0 {n = i} (omega (arith, stream-length))) (omega arith)

    pub stream-lt : stream_number z image < 2 ^ stream_bits z
    stream-lt = rw stream-length at (number_lt (stream_of z image) stream-bytes)

    -- Stream bit n is bit n mod 8 of stream byte n / 8, bit 0 lowest.
    pub stream-bit : (n : ℕ) → n < stream_bits z → bit (stream_number z image) n ≡ bit (get_or image (stream_index z (n / 8)) 0) (n % 8)
    stream-bit n h = bit_at (stream_of z image) stream-bytes n ∙ ap (λ (b : ℕ). bit b (n % 8)) (stream_at (n / 8) (omega arith))

    -- The stream's bytes, from its number.
    pub bytes-stream : bytes_of (stream_bytes z) (stream_number z image) ≡ stream_of z image
    bytes-stream = rw (← stream-length) (bytes-number (stream_of z image) stream-bytes)

-- ---- two images

-- An image is its stream and its check bytes.
pub image-ext : (z : Sizes) (l k : List ℕ) → length l ≡ image_bytes z → length k ≡ image_bytes z → stream_of z l ≡ stream_of z k
    → ((q : ℕ) → q < z.pages → get_or l (page_at z q) 0 ≡ get_or k (page_at z q) 0) → l ≡ k
image-ext z l k wl wk e c = ext_get_or 0 l k (wl ∙ sym wk) (λ j h. go j (stands z j (omega arith)))
  where
    go : (j : ℕ) → Valid z j → get_or l j 0 ≡ get_or k j 0
    go j (check q h s) = rw s (c q h)
    go j (stream i h s) = rw s (sym (stream_at z l wl i h) ∙ ap (λ (x : List ℕ). get_or x i 0) e ∙ stream_at z k wk i h)

module _ (z : Sizes) (image : List ℕ) (whole : length image ≡ image_bytes z) where
  set-whole : (i b : ℕ) → length (set image i b) ≡ image_bytes z
  set-whole i b = length-set image i b ∙ whole

  -- A store to a byte of the stream, and to a check byte.
  pub stream-set : (i : ℕ) → i < stream_bytes z → (b : ℕ) → stream_of z (set image (stream_index z i) b) ≡ set (stream_of z image) i b
  stream-set i hi b =
      let l : List ℕ = set image (stream_index z i) b in
      let e : length (stream_of z l) ≡ stream_bytes z = stream-length z l (set-whole (stream_index z i) b) in
      ext_get_or 0 _ _ (omega (arith, length-set (stream_of z image) i b, stream-length z image whole)) (λ j k. go j (omega arith) (ℕ_discrete j i))
    where
      go : (j : ℕ) → j < stream_bytes z → Dec (j ≡ i) → get_or (stream_of z (set image (stream_index z i) b)) j 0 ≡ get_or (set (stream_of z image) i b) j 0
      go j k (yes e) =
          stream_at z _ (set-whole (stream_index z i) b) j k ∙ ap (λ (x : ℕ). get_or (set image (stream_index z i) b) (stream_index z x) 0) e
          ∙ get_or-set_same image (stream_index z i) b 0 (omega (arith, index-lt z i hi))
          ∙ sym (get_or-set_same (stream_of z image) i b 0 (omega (arith, stream-length z image whole)))
          ∙ ap (λ (x : ℕ). get_or (set (stream_of z image) i b) x 0) (sym e)
      go j k (no n) =
          stream_at z _ (set-whole (stream_index z i) b) j k
          ∙ get_or-set_other image (stream_index z i) (stream_index z j) b 0 (λ e. n (index-inj z j i e))
          ∙ sym (stream_at z image whole j k)
          ∙ sym (get_or-set_other (stream_of z image) i j b 0 n)

  pub stream-check : (q b : ℕ) → stream_of z (set image (page_at z q) b) ≡ stream_of z image
  stream-check q b =
      let l : List ℕ = set image (page_at z q) b in
      let e : length (stream_of z l) ≡ stream_bytes z = stream-length z l (set-whole (page_at z q) b) in
      ext_get_or 0 _ _ (omega (arith, stream-length z image whole))
      (λ j k. stream_at z l (set-whole (page_at z q) b) j (omega arith) ∙ get_or-set_other image (page_at z q) (stream_index z j) b 0 (index-check z j q)
      ∙ sym (stream_at z image whole j (omega arith)))
