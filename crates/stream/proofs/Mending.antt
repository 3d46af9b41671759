-- Laws of a field put with the check bytes of its pages made right.
use Rattle.stream.proofs.Names.{◌≡◌, sym, ap, ap₂, ◌∙◌, ◌⊎◌, inl, inr, List, ℕ, zero, suc, ◌+◌, ◌-◌, ◌*◌, ◌^◌, ◌≤◌, ◌<◌, arith, dec_lt, ℕ_discrete, length, take, drop, get_or, length-drop, length-take-le, Sizes}
use Rattle.stream.proofs.Names.{Bytes, number, field_at, put_at, image_bytes, stream_bytes, stream_bits, page_at, page_of, page_sum, SumsRight, stream_of, stream_number, image_of, sealed, put_in, InStream, put-after}
use Rattle.stream.proofs.Names.{put-before, bytes_take, bytes_drop, number-part, number-ext, stream-length, stream-bytes, put_whole, put-bytes, put-stream, put-checks, stream_part, sum_same, image-is, seal-length}
use Rattle.stream.proofs.Names.{seal-bytes, seal-number, seal-sum, seal-other, seal-others}

-- Two streams with the same field have the same bytes there.
same-part : (l k : List ℕ) (S i n : ℕ) → length l ≡ S → length k ≡ S → Bytes l → Bytes k → i + n ≤ S
    → field_at (number l) (8 * i) (8 * n) ≡ field_at (number k) (8 * i) (8 * n) → take n (drop i l) ≡ take n (drop i k)
same-part l k S i n el ek hl hk h e =
    number-ext _ _ (part l el ∙ sym (part k ek)) (bytes_take n (drop i l) (bytes_drop i l hl)) (bytes_take n (drop i k) (bytes_drop i k hk))
    (number-part l hl i n ∙ e ∙ sym (number-part k hk i n))
  where
    part : (m : List ℕ) → length m ≡ S → length (take n (drop i m)) ≡ n
    part m em = length-take-le n (drop i m) (omega (arith, length-drop i m))

module _ (z : Sizes) (image : List ℕ) (whole : length image ≡ image_bytes z) (hb : Bytes image)
    (at w code : ℕ) (inside : at + w ≤ stream_bits z) (some : 1 ≤ w) (most : w ≤ 49) (hc : code < 2 ^ w) where
  kept_field : (m v : ℕ) → (at + w ≤ m) ⊎ (m + v ≤ at)
      → field_at (stream_number z (put_in z image at w code)) m v ≡ field_at (stream_number z image) m v
  kept_field m v (inl h) = ap (λ (N : ℕ). field_at N m v) (put-stream z image at w code whole hb inside hc) ∙ put-after (stream_number z image) at w code hc m v h
  kept_field m v (inr h) = ap (λ (N : ℕ). field_at N m v) (put-stream z image at w code whole hb inside hc) ∙ put-before (stream_number z image) at w code hc m v h

  kept-bytes : (i n : ℕ) → i + n ≤ stream_bytes z → (at + w ≤ 8 * i) ⊎ (8 * i + 8 * n ≤ at)
      → take n (drop i (stream_of z (put_in z image at w code))) ≡ take n (drop i (stream_of z image))
  kept-bytes i n h a =
      let l : List ℕ = put_in z image at w code in
      same-part (stream_of z l) (stream_of z image) (stream_bytes z) i n (stream-length z l (put_whole z image at w code whole)) (stream-length z image whole)
      (stream-bytes z l (put_whole z image at w code whole) (put-bytes z image at w code whole hb)) (stream-bytes z image whole hb) h (kept_field (8 * i) (8 * n) a)

  -- A page that the field does not touch keeps its part of the stream.
  kept-part : (q : ℕ) → q < z.pages → (q ≡ page_of z at → ⊥) → (q ≡ page_of z (at + w - 1) → ⊥)
      → stream_part z (stream_of z (put_in z image at w code)) q ≡ stream_part z (stream_of z image) q
  kept-part zero h n m = kept-bytes 0 (z.register + 31) (omega arith) (inr (omega arith))
  kept-part (suc q) h n m = kept-bytes (z.register + 31 * suc q) 31 (omega arith) (go (dec_lt (suc q) (page_of z at)))
    where
      go : Dec (suc q < page_of z at) → (at + w ≤ 8 * (z.register + 31 * suc q)) ⊎ (8 * (z.register + 31 * suc q) + 8 * 31 ≤ at)
      go (yes s) = inr (omega arith)
      go (no s) = inl (omega arith)

  pub put-sum : (q : ℕ) → q < z.pages → (q ≡ page_of z at → ⊥) → (q ≡ page_of z (at + w - 1) → ⊥) → page_sum z (put_in z image at w code) q ≡ page_sum z image q
  put-sum q h n m =
      sum_same z image whole q h (put_in z image at w code) (put_whole z image at w code whole) (put-checks z image at w code whole q) (kept-part q h n m)

  module _ (paged : 1 ≤ z.pages) where
    pub first-page : page_of z at < z.pages
    first-page = omega arith

    pub last-page : page_of z (at + w - 1) < z.pages
    last-page = omega arith

    abbrev put : List ℕ
    put = put_in z image at w code

    abbrev first : List ℕ
    first = sealed z put (page_of z at)

    abbrev last : List ℕ
    last = sealed z first (page_of z (at + w - 1))

    put-long : length put ≡ image_bytes z
    put-long = put_whole z image at w code whole

    first-long : length first ≡ image_bytes z
    first-long = seal-length z put put-long (page_of z at) first-page

    module _ (right : SumsRight z image) where
      last_sum : (q : ℕ) → q < z.pages → Dec (q ≡ page_of z at) → Dec (q ≡ page_of z (at + w - 1)) → page_sum z last q ≡ 0
      last_sum q h d (yes e) =
          ap (page_sum z last) e ∙ seal-sum z first first-long (page_of z (at + w - 1)) last-page
      last_sum q h (yes d) (no e) =
          seal-others z first first-long (page_of z (at + w - 1)) last-page q h e
          ∙ ap (page_sum z first) d ∙ seal-sum z put put-long (page_of z at) first-page
      last_sum q h (no d) (no e) =
          seal-others z first first-long (page_of z (at + w - 1)) last-page q h e
          ∙ seal-others z put put-long (page_of z at) first-page q h d
          ∙ put-sum q h d e ∙ right q h

      -- A field put, and the pages of its first and its last
      -- bit sealed, is the image of the changed stream.
      pub mended : sealed z (sealed z (put_in z image at w code) (page_of z at)) (page_of z (at + w - 1)) ≡ image_of z (put_at (stream_number z image) at w code)
      mended =
          image-is z (put_at (stream_number z image) at w code) last (seal-length z first first-long (page_of z (at + w - 1)) last-page)
          (seal-bytes z first first-long (page_of z (at + w - 1)) last-page (seal-bytes z put put-long (page_of z at) first-page (put-bytes z image at w code whole hb)))
          (λ q h. last_sum q h (ℕ_discrete q (page_of z at)) (ℕ_discrete q (page_of z (at + w - 1))))
          (seal-number z first first-long (page_of z (at + w - 1)) last-page ∙ seal-number z put put-long (page_of z at) first-page
          ∙ put-stream z image at w code whole hb inside hc)

      first-sum : page_of z at ≡ page_of z (at + w - 1) → (q : ℕ) → q < z.pages → Dec (q ≡ page_of z at) → page_sum z first q ≡ 0
      first-sum same q h (yes d) = ap (page_sum z first) d ∙ seal-sum z put put-long (page_of z at) first-page
      first-sum same q h (no d) =
          seal-others z put put-long (page_of z at) first-page q h d ∙ put-sum q h d (λ e. d (e ∙ sym same)) ∙ right q h

      -- One seal is enough if both bits are in one page.
      pub mended-once : page_of z at ≡ page_of z (at + w - 1) → sealed z (put_in z image at w code) (page_of z at) ≡ image_of z (put_at (stream_number z image) at w code)
      mended-once same =
          image-is z (put_at (stream_number z image) at w code) first first-long
          (seal-bytes z put put-long (page_of z at) first-page (put-bytes z image at w code whole hb))
          (λ q h. first-sum same q h (ℕ_discrete q (page_of z at)))
          (seal-number z put put-long (page_of z at) first-page ∙ put-stream z image at w code whole hb inside hc)

      -- The check byte of any other page is unchanged.
      pub mended-check : (q : ℕ) → (q ≡ page_of z at → ⊥) → (q ≡ page_of z (at + w - 1) → ⊥)
          → get_or (image_of z (put_at (stream_number z image) at w code)) (page_at z q) 0 ≡ get_or image (page_at z q) 0
      mended-check q n m =
          ap (λ (x : List ℕ). get_or x (page_at z q) 0) (sym mended)
          ∙ seal-other z first first-long (page_of z (at + w - 1)) last-page (page_at z q) (λ e. m (omega arith))
          ∙ seal-other z put put-long (page_of z at) first-page (page_at z q) (λ e. n (omega arith))
          ∙ put-checks z image at w code whole q

-- A field put and its pages sealed, in successive calls.
module _ (z : Sizes) (image : List ℕ) {a b : List ℕ} (at w code : ℕ) {p q : ℕ} (bytes : Bytes image) (here : InStream z image at w) (fits : code < 2 ^ w)
    (paged : 1 ≤ z.pages) (right : SumsRight z image) (first : p ≡ page_of z at) (last : q ≡ page_of z (at + w - 1))
    (ea : a ≡ put_in z image at w code) (eb : b ≡ sealed z a p) where
  pub rewritten : {d : List ℕ} → d ≡ sealed z b q → d ≡ image_of z (put_at (stream_number z image) at w code)
  rewritten ed =
      ed ∙ ap₂ (sealed z) (eb ∙ ap₂ (sealed z) ea first) last
      ∙ mended z image here.whole.long bytes at w code here.inside here.some here.most fits paged right

  pub rewritten-once : p ≡ q → b ≡ image_of z (put_at (stream_number z image) at w code)
  rewritten-once same =
      eb ∙ ap₂ (sealed z) ea first
      ∙ mended-once z image here.whole.long bytes at w code here.inside here.some here.most fits paged right (sym first ∙ same ∙ last)
