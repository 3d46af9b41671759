-- Laws of writing the bytes of a word into an image:
-- eight adjacent bytes, and a field of the stream.
use Rattle.stream.proofs.Names.{◌≡◌, refl, sym, ap, ap₂, ◌∙◌, List, ℕ, zero, suc, ◌+◌, ◌-◌, ◌*◌, ◌/◌, ◌%◌, ◌^◌, ◌≤◌, ◌<◌, mod-lt, mod-one, mod-eq_of_lt, div-eq_of_lt, lt_of_lt_of_le, zero-mul, add-one, arith}
use Rattle.stream.proofs.Names.{length, get_or, set, length-set, get_or-set_other, lit<, bit_or, bit_and, or_shifted_r, pow_pos, pow_mono, mod-pow-add, split, shr_lt, shl_exact, Sizes, Bytes, number, bytes_of, field_at}
use Rattle.stream.proofs.Names.{put_at, image_bytes, stream_bytes, stream_bits, page_at, stream_of, stream_number, with_stream, put_in, stream_index, field_lt, low-lt, put_same, put-after, put-put, put-in, put-lt}
use Rattle.stream.proofs.Names.{bytes-set, bytes-length, bytes-number, number-bytes, number_lt, number_at, number-set, stream-length, stream-bytes, stream-set, index-check, Put, put_is, put_whole, put-bytes}
use Rattle.stream.proofs.Names.{put-stream, put-checks}
use Rattle.stream.proofs.Words.{low_bits}
use Rattle.stream.proofs.Runs.{Side, side-stream, index_at, run-field, run-bits, eight-in}

-- ---- a word into eight bytes

put-none : (N n word : ℕ) → put_at N n 0 (word % 2 ^ 0) ≡ N
put-none N n word = ap (λ (x : ℕ). put_at N n 0 x) (mod-one word ∙ sym (mod-one (N / 2 ^ n))) ∙ put_same N n 0

-- One more byte above those written.
number-turn : (l : List ℕ) → Bytes l → (N f k word : ℕ) → f + k < length l → number l ≡ put_at N (8 * f) (8 * k) (word % 2 ^ (8 * k))
    → number (set l (f + k) (word / 2 ^ (8 * k) % 256)) ≡ put_at N (8 * f) (8 * (k + 1)) (word % 2 ^ (8 * (k + 1)))
number-turn l hb N f k word hi e =
    let b : ℕ = word / 2 ^ (8 * k) % 256 in
    number-set l hb (f + k) hi b
    ∙ ap₂ (λ (x y : ℕ). put_at x y 8 b) e (omega arith)
    ∙ put-put N (8 * f) 8 (8 * k) (word % 2 ^ (8 * k)) b (mod-lt word (pow_pos (8 * k)))
    ∙ ap (λ (x : ℕ). put_at N (8 * f) (8 + 8 * k) x) (sym (mod-pow-add word 8 (8 * k)))
    ∙ ap (λ (x : ℕ). put_at N (8 * f) x (word % 2 ^ x)) (omega arith)

module _ (image : List ℕ) (f word : ℕ) where
  -- The k low bytes of the word are in the image from byte f on.
  pub record Lies (k : ℕ) (l : List ℕ) : Type 0 where
    pub long : length l ≡ length image
    pub bytes : Bytes l
    pub stands : number l ≡ put_at (number image) (8 * f) (8 * k) (word % 2 ^ (8 * k))

  lay-none : Bytes image → Lies 0 image
  lay-none hb = record { long = refl; bytes = hb; stands = sym (put-none (number image) (8 * f) word) }

  pub lay-turn : (k b : ℕ) (l : List ℕ) → f + k < length image → b ≡ word / 2 ^ (8 * k) % 256 → Lies k l → Lies (k + 1) (set l (f + k) b)
  lay-turn k b l h e p =
      rw e
      (record {
        long = length-set l (f + k) (word / 2 ^ (8 * k) % 256) ∙ p.long;
        bytes = bytes-set l (f + k) (word / 2 ^ (8 * k) % 256) p.bytes (mod-lt (word / 2 ^ (8 * k)) (pow_pos 8));
        stands = number-turn l p.bytes (number image) f k word (omega (arith, p.long)) p.stands;
      })

  pub lay-first : (b : ℕ) → Bytes image → f < length image → b ≡ word % 256 → Lies 1 (set image f b)
  lay-first b hb h e =
      let z : f + 0 ≡ f = omega arith in
      rw z at (lay-turn 0 b image (omega arith) (omega arith) (lay-none hb))

  pub laid-eight : {l : List ℕ} → word < 2 ^ 64 → Lies 8 l → l ≡ bytes_of (length image) (put_at (number image) (8 * f) 64 word)
  laid-eight {l} h p =
      sym (bytes-number l p.bytes)
      ∙ ap₂ bytes_of p.long (p.stands ∙ ap (put_at (number image) (8 * f) 64) (mod-eq_of_lt h))

  -- All eight bytes are written.
  pub laid_word : (b0 b1 b2 b3 b4 b5 b6 b7 : ℕ) → Bytes image → f + 8 ≤ length image → word < 2 ^ 64
      → b0 ≡ word % 256 → b1 ≡ word / 2 ^ 8 % 256 → b2 ≡ word / 2 ^ 16 % 256 → b3 ≡ word / 2 ^ 24 % 256
      → b4 ≡ word / 2 ^ 32 % 256 → b5 ≡ word / 2 ^ 40 % 256 → b6 ≡ word / 2 ^ 48 % 256 → b7 ≡ word / 2 ^ 56 % 256
      → set (set (set (set (set (set (set (set image f b0) (f + 1) b1) (f + 2) b2) (f + 3) b3) (f + 4) b4) (f + 5) b5) (f + 6) b6) (f + 7) b7
      ≡ bytes_of (length image) (put_at (number image) (8 * f) 64 word)
  laid_word b0 b1 b2 b3 b4 b5 b6 b7 hb h hw e0 e1 e2 e3 e4 e5 e6 e7 =
      let l1 = lay-first b0 hb (omega arith) e0 in
      let l2 = lay-turn 1 b1 _ (eight-in f 1 _ h (lit< tt)) e1 l1 in
      let l3 = lay-turn 2 b2 _ (eight-in f 2 _ h (lit< tt)) e2 l2 in
      let l4 = lay-turn 3 b3 _ (eight-in f 3 _ h (lit< tt)) e3 l3 in
      let l5 = lay-turn 4 b4 _ (eight-in f 4 _ h (lit< tt)) e4 l4 in
      let l6 = lay-turn 5 b5 _ (eight-in f 5 _ h (lit< tt)) e5 l5 in
      let l7 = lay-turn 6 b6 _ (eight-in f 6 _ h (lit< tt)) e6 l6 in
      let l8 = lay-turn 7 b7 _ (eight-in f 7 _ h (lit< tt)) e7 l7 in
      laid-eight hw l8

-- A field of the eight bytes is replaced.
pub eight-put : (image l : List ℕ) (f bit width code word new : ℕ) → 8 * f ≤ bit → bit + width ≤ 8 * f + 64 → code < 2 ^ width
    → word ≡ field_at (number image) (8 * f) 64 → new ≡ put_at word (bit - 8 * f) width code → l ≡ bytes_of (length image) (put_at (number image) (8 * f) 64 new)
    → l ≡ bytes_of (length image) (put_at (number image) bit width code)
eight-put image l f bit width code word new from to hc ew en el =
    let low : ℕ = bit - 8 * f in
    el ∙ ap (bytes_of (length image))
    (ap (put_at (number image) (8 * f) 64) (en ∙ ap (λ (x : ℕ). put_at x low width code) ew) ∙ put-in (number image) (8 * f) 64 low width code hc (omega arith)
    ∙ ap (λ (x : ℕ). put_at (number image) x width code) (omega arith))

-- A code put above all bits that are set is added to the number.
pub put-free : (N at w code : ℕ) → N < 2 ^ at → put_at N at w code ≡ code * 2 ^ at + N
put-free N at w code h =
    let below : N < 2 ^ (w + at) = lt_of_lt_of_le h (pow_mono {i = at} {j = w + at} (omega arith)) in
    ap₂ (λ (q r : ℕ). q * 2 ^ (w + at) + (code * 2 ^ at + r)) (div-eq_of_lt below) (mod-eq_of_lt h)
    ∙ omega (arith, zero-mul (2 ^ (w + at)))

-- ---- a field of the stream

scatter-none : (z : Sizes) (image : List ℕ) → Bytes image → (n word : ℕ) → Put z image n 0 (word % 2 ^ 0) image
scatter-none z image hb n word = record { long = refl; bytes = hb; stream = sym (put-none (stream_number z image) n word); checks = λ q. refl }

-- One more byte of the stream above those written.
scatter-turn : (z : Sizes) (image l : List ℕ) (f k word : ℕ) → length image ≡ image_bytes z → f + k < stream_bytes z
    → Put z image (8 * f) (8 * k) (word % 2 ^ (8 * k)) l
    → Put z image (8 * f) (8 * (k + 1)) (word % 2 ^ (8 * (k + 1))) (set l (stream_index z (f + k)) (word / 2 ^ (8 * k) % 256))
scatter-turn z image l f k word whole hi p =
    let i : ℕ = stream_index z (f + k) in
    let b : ℕ = word / 2 ^ (8 * k) % 256 in
    let wl : length l ≡ image_bytes z = p.long ∙ whole in
    record {
      long = length-set l i b ∙ p.long;
      bytes = bytes-set l i b p.bytes (mod-lt (word / 2 ^ (8 * k)) (pow_pos 8));
      stream =
          ap number (stream-set z l wl (f + k) hi b)
          ∙ number-turn (stream_of z l) (stream-bytes z l wl p.bytes) (stream_number z image) f k word (omega (arith, stream-length z l wl)) p.stream;
      checks = λ q. get_or-set_other l i (page_at z q) b 0 (λ e. index-check z (f + k) q (sym e)) ∙ p.checks q;
    }

-- The image with the n low bytes of a word in it.
abbrev laid : ℕ → List ℕ → ℕ → ℕ → List ℕ
laid from image word zero = image
laid from image word (suc n) = set (laid from image word n) (from + n) (word / 2 ^ (8 * n) % 256)

module _ (z : Sizes) (image : List ℕ) (whole : length image ≡ image_bytes z) (hb : Bytes image) where
  module _ (f from word : ℕ) where
    laid-put : (n : ℕ) → f + n ≤ stream_bytes z → ((k : ℕ) → k < n → stream_index z (f + k) ≡ from + k)
        → Put z image (8 * f) (8 * n) (word % 2 ^ (8 * n)) (laid from image word n)
    laid-put zero h e = scatter-none z image hb (8 * f) word
    laid-put (suc n) h e =
        rw (← e n (omega arith), ← add-one n)
        (scatter-turn z image (laid from image word n) f n word whole (omega arith) (laid-put n (omega arith) (λ k l. e k (omega arith))))

    laid-stands : (n : ℕ) → from + n ≤ length image → Lies image from word n (laid from image word n)
    laid-stands zero h = lay-none image from word hb
    laid-stands (suc n) h =
        rw (← add-one n) (lay-turn image from word n (word / 2 ^ (8 * n) % 256) (laid from image word n) (omega arith) refl (laid-stands n (omega arith)))

  -- Adjacent bits: putting them into the image puts them into its stream.
  pub run-put : (c n w code : ℕ) (after : List ℕ) → Side z c n w → code < 2 ^ w → after ≡ bytes_of (length image) (put_at (number image) (n + 8 * c) w code)
      → after ≡ put_in z image n w code
  run-put c n w code after s hc e =
      let f : ℕ = n / 8 in
      let m : ℕ = (n % 8 + w + 7) / 8 in
      let N : ℕ = stream_number z image in
      let M : ℕ = number image in
      let word : ℕ = put_at (field_at M (8 * (f + c)) (8 * m)) (n % 8) w code in
      let at : (k : ℕ) → k < m → stream_index z (f + k) ≡ f + c + k = λ k h. omega (arith, index_at z c (f + k) (omega arith) (omega arith)) in
      let p = laid-put f (f + c) word m (omega (arith, side-stream s)) at in
      let l = laid-stands f (f + c) word m (omega arith) in
      let ew : word % 2 ^ (8 * m) ≡ word =
      mod-eq_of_lt (put-lt (field_at M (8 * (f + c)) (8 * m)) (n % 8) w code hc (8 * m) (field_lt M (8 * (f + c)) (8 * m)) (omega arith)) in
      let em : put_at M (n + 8 * c) w code ≡ number (laid (f + c) image word m) =
      ap (λ (x : ℕ). put_at M x w code) (omega arith) ∙ sym (put-in M (8 * (f + c)) (8 * m) (n % 8) w code hc (omega arith))
      ∙ sym (l.stands ∙ ap (put_at M (8 * (f + c)) (8 * m)) ew) in
      e ∙ ap₂ bytes_of (sym l.long) em ∙ bytes-number _ l.bytes
      ∙ put_is z image (8 * f) (8 * m) (word % 2 ^ (8 * m)) whole p
      ∙ ap (with_stream z image)
      (ap (put_at N (8 * f) (8 * m)) (ew ∙ ap (λ (x : ℕ). put_at x (n % 8) w code) (sym (run-field z image whole hb f (f + c) m (omega (arith, side-stream s)) at)))
      ∙ put-in N (8 * f) (8 * m) (n % 8) w code hc (omega arith) ∙ ap (λ (x : ℕ). put_at N x w code) (omega arith))

  -- Two adjacent fields of the stream are one field.
  pub put_two : (n s v c d : ℕ) → n + s + v ≤ stream_bits z → c < 2 ^ s → d < 2 ^ v → put_in z (put_in z image n s c) (n + s) v d ≡ put_in z image n (v + s) (d * 2 ^ s + c)
  put_two n s v c d h hc hd =
      let l : List ℕ = put_in z image n s c in
      let wl : length l ≡ image_bytes z = put_whole z image n s c whole in
      let bl : Bytes l = put-bytes z image n s c whole hb in
      put_is z image n (v + s) (d * 2 ^ s + c) whole
      (record {
        long = put_whole z l (n + s) v d wl ∙ sym whole;
        bytes = put-bytes z l (n + s) v d wl bl;
        stream =
            put-stream z l (n + s) v d wl bl h hd
            ∙ ap₂ (λ (x k : ℕ). put_at x k v d) (put-stream z image n s c whole hb (omega arith) hc) (omega arith)
            ∙ put-put (stream_number z image) n v s c d hc;
        checks = λ q. put-checks z l (n + s) v d wl q ∙ put-checks z image n s c whole q;
      })

module _ (z : Sizes) (image : List ℕ) (whole : length image ≡ image_bytes z) (hb : Bytes image) where
  -- A field is put in two parts, with a check byte between them.
  two-parts : (c n s v code : ℕ) (a b : List ℕ) → Side z c n s → Side z (c + 1) (n + s) v → code < 2 ^ (v + s)
      → a ≡ bytes_of (length image) (put_at (number image) (n + 8 * c) s (code % 2 ^ s))
      → b ≡ bytes_of (length a) (put_at (number a) (n + s + 8 * (c + 1)) v (code / 2 ^ s))
      → b ≡ put_in z image n (v + s) code
  two-parts c n s v code a b p q hc ea eb =
      let lo : ℕ = code % 2 ^ s in
      let hi : ℕ = code / 2 ^ s in
      let l : List ℕ = put_in z image n s lo in
      let hl : lo < 2 ^ s = mod-lt code (pow_pos s) in
      let hh : hi < 2 ^ v = shr_lt v s hc in
      let el : a ≡ l = run-put z image whole hb c n s lo a p hl ea in
      run-put z l (put_whole z image n s lo whole) (put-bytes z image n s lo whole hb) (c + 1) (n + s) v hi b q hh
      (eb ∙ ap (λ (x : List ℕ). bytes_of (length x) (put_at (number x) (n + s + 8 * (c + 1)) v hi)) el)
      ∙ put_two z image whole hb n s v lo hi (side-stream q) hl hh
      ∙ ap (put_in z image n (v + s)) (split code s)

  pub put-far : (c at width edge code : ℕ) (a b : List ℕ) → Side z c at (edge - at) → Side z (c + 1) edge (width - (edge - at)) → at < edge → edge < at + width
      → width ≤ 49 → code < 2 ^ width
      → a ≡ bytes_of (length image) (put_at (number image) (at + 8 * c) (edge - at) (bit_and code (1 * 2 ^ (edge - at) % 2 ^ 64 - 1)))
      → b ≡ bytes_of (length a) (put_at (number a) (edge + 8 * c + 8) (width - (edge - at)) (code / 2 ^ (edge - at)))
      → b ≡ put_in z image at width code
  put-far c at width edge code a b p q before behind most hc ea eb =
      let s : ℕ = edge - at in
      let v : ℕ = width - s in
      let e : v + s ≡ width = omega arith in
      let f : edge ≡ at + s = omega arith in
      two-parts c at s v code a b p (rw (← f) q) (rw e hc)
      (ea ∙ ap (λ (x : ℕ). bytes_of (length image) (put_at (number image) (at + 8 * c) s x)) (low_bits code s (omega arith)))
      (eb ∙ ap (λ (k : ℕ). bytes_of (length a) (put_at (number a) k v (code / 2 ^ s))) (omega arith))
      ∙ ap (λ (x : ℕ). put_in z image at x code) e

  -- A field is put above all bits that are set, in the
  -- bytes from its first on: no other byte has to be kept.
  module _ (c at width code first : ℕ) (most : width ≤ 49) (hc : code < 2 ^ width) (below : stream_number z image < 2 ^ at)
      (here : Side z c (8 * (at / 8)) 8) (ef : first ≡ get_or image (at / 8 + c) 0) where
    abbrev N : ℕ
    N = stream_number z image

    abbrev i : ℕ
    i = at / 8

    abbrev word : ℕ
    word = bit_or first (code * 2 ^ (at % 8) % 2 ^ 64)

    few : N / 2 ^ (8 * i) < 2 ^ (at % 8)
    few =
        let e : at ≡ at % 8 + 8 * i = omega arith in
        shr_lt (at % 8) (8 * i) (rw (← e) below)

    within : (w : ℕ) → 8 ≤ w → field_at N (8 * i) w ≡ N / 2 ^ (8 * i)
    within w h = mod-eq_of_lt (lt_of_lt_of_le few (pow_mono {i = at % 8} {j = w} (omega arith)))

    word-is : (w : ℕ) → 8 ≤ w → word ≡ put_at (field_at N (8 * i) w) (at % 8) width code
    word-is w h =
        let kept : first ≡ N / 2 ^ (8 * i) =
        ef ∙ sym (number_at image hb (i + c) (omega arith)) ∙ ap (λ (x : ℕ). field_at (number image) x 8) (omega arith)
        ∙ sym (run-bits z image whole hb c (8 * i) 8 here) ∙ within 8 (omega arith) in
        ap₂ bit_or kept (shl_exact width (at % 8) 64 hc (omega arith)) ∙ or_shifted_r code (at % 8) (N / 2 ^ (8 * i)) few
        ∙ sym (ap (λ (x : ℕ). put_at x (at % 8) width code) (within w h) ∙ put-free (N / 2 ^ (8 * i)) (at % 8) width code few)

    word-put : (w : ℕ) → 56 ≤ w → put_in z image (8 * i) w word ≡ put_in z image at width code
    word-put w h =
        ap (with_stream z image)
        (ap (put_at N (8 * i) w) (word-is w (omega arith)) ∙ put-in N (8 * i) w (at % 8) width code hc (omega arith) ∙ ap (λ (x : ℕ). put_at N x width code) (omega arith))

    pub word_lt : (w : ℕ) → 56 ≤ w → word < 2 ^ w
    word_lt w h =
        rw (word-is w (omega arith)) (put-lt (field_at N (8 * i) w) (at % 8) width code hc w (field_lt N (8 * i) w) (omega arith))

    -- The bytes are before the next check byte, or contain it.
    pub append-near : (after : List ℕ) → Side z c (8 * i) 64 → after ≡ bytes_of (length image) (put_at (number image) (8 * (i + c)) 64 word)
        → after ≡ put_in z image at width code
    append-near after s e =
        run-put z image whole hb c (8 * i) 64 word after s (word_lt 64 (omega arith))
        (e ∙ ap (λ (k : ℕ). bytes_of (length image) (put_at (number image) k 64 word)) (omega arith))
        ∙ word-put 64 (omega arith)

    pub append-over : (edge check new : ℕ) (after : List ℕ) → i ≤ edge → edge ≤ i + 7 → i + c + 8 ≤ length image
        → Side z c (8 * i) (8 * (edge - i)) → Side z (c + 1) (8 * edge) (56 - 8 * (edge - i)) → check ≡ get_or image (edge + c) 0
        → new ≡ word / 2 ^ (8 * (edge - i)) * 2 ^ (8 + 8 * (edge - i)) + (check * 2 ^ (8 * (edge - i)) + word % 2 ^ (8 * (edge - i)))
        → after ≡ bytes_of (length image) (put_at (number image) (8 * (i + c)) 64 new)
        → after ≡ put_in z image at width code
    append-over edge check new after from to inside p q ek en ea =
        let M : ℕ = number image in
        let g : ℕ = 8 * i + 8 * c in
        let s : ℕ = 8 * (edge - i) in
        let v : ℕ = 56 - s in
        let lo : ℕ = word % 2 ^ s in
        let hi : ℕ = word / 2 ^ s in
        let P : ℕ = put_at M g s lo in
        let hl : lo < 2 ^ s = mod-lt word (pow_pos s) in
        let all : v + s ≡ 56 = omega arith in
        let behind : 8 * edge ≡ 8 * i + s = omega arith in
        let kept : check ≡ field_at P (s + g) 8 =
        ek ∙ sym (number_at image hb (edge + c) (omega arith)) ∙ ap (λ (x : ℕ). field_at M x 8) (omega arith) ∙ sym (put-after M g s lo hl (s + g) 8 (omega arith)) in
        let parts : put_at M (8 * (i + c)) 64 new ≡ put_at P (8 + s + g) v hi =
        ap₂ (λ (x k : ℕ). put_at M x k new) (omega arith) (omega arith) ∙ ap (put_at M g (v + (8 + s))) en
        ∙ sym (put-put M g v (8 + s) (check * 2 ^ s + lo) hi (low-lt word s 8 check (rw ek (hb (edge + c)))))
        ∙ ap (λ (x : ℕ). put_at x (8 + s + g) v hi) (sym (put-put M g 8 s lo check hl) ∙ ap (put_at P (s + g) 8) kept ∙ put_same P (s + g) 8) in
        let first_part : number (bytes_of (length image) P) ≡ P =
        number-bytes (length image) P ∙ mod-eq_of_lt (put-lt M g s lo hl (8 * length image) (number_lt image hb) (omega arith)) in
        two-parts c (8 * i) s v word (bytes_of (length image) P) after p (rw (← behind) q) (rw all (word_lt 56 (omega arith))) refl
        (ea ∙ ap₂ bytes_of (sym (bytes-length (length image) P)) (parts ∙ ap₂ (λ (x k : ℕ). put_at x k v hi) (sym first_part) (omega arith)))
        ∙ ap (λ (w : ℕ). put_in z image (8 * i) w word) all
        ∙ word-put 56 (omega arith)
