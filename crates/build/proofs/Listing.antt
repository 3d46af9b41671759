-- Laws of the one list of codes: its parts, the codes that begin
-- a block, and codes that are one bit string with several pieces.
use Rattle.build.proofs.Names.{◌≡◌, refl, sym, ap, ap₂, ◌∙◌, List, [], ◌∷◌, ◌++◌, map, map-append, append_assoc, append-nil, ℕ, zero, suc, ◌+◌, ◌-◌, ◌*◌, ◌^◌, ◌≤◌, ◌<◌, zero-mul, arith, dec_le, lt_of_not-le}
use Rattle.build.proofs.Names.{length, take, drop, get_or, length-append, length-drop, length-map, length-take-le, get_or-append, get_or-append-add, get_or-drop, get_or-take, take-append-drop, take-append-add, take_all, drop_of_length-le}
use Rattle.build.proofs.Names.{take-append-le, drop-append-le, Sizes, Piece, piece, pack, needed, needed-append, pack-append, Template, basic, number_of, block_pieces}
use Rattle.build.proofs.Names.{CodedField, Fitting, Fit, field_piece, unpack, unpacked, first_codes, coded_list, block_head, bit_string, fitted}
use Rattle.build.proofs.Coding.{fit-more, packed-long}

-- ---- parts of a list

unpacked-take : (l : List ℕ) (k : ℕ) → take k (unpacked l) ≡ unpacked (take k l)
unpacked-take l zero = refl
unpacked-take [] (suc k) = refl
unpacked-take (x ∷ l) (suc k) = ap (λ m. unpack x ∷ m) (unpacked-take l k)

unpacked-drop : (l : List ℕ) (k : ℕ) → drop k (unpacked l) ≡ unpacked (drop k l)
unpacked-drop l zero = refl
unpacked-drop [] (suc k) = refl
unpacked-drop (x ∷ l) (suc k) = unpacked-drop l k

-- The first codes fit, and the others.
module _ {n : ℕ} (codes : List ℕ) (k : ℕ) (fit : Fit n (unpacked codes)) (h : k ≤ n) where
  pub fit-front : Fit k (unpacked (take k codes))
  fit-front = rw (← unpacked-take codes k) (record {
    long = length-take-le k (unpacked codes) (omega (arith, fit.long));
    each = λ i none l. rw (get_or-take k (unpacked codes) i none l) (fit.each i none (omega arith));
  })

  pub fit-back : Fit (n - k) (unpacked (drop k codes))
  fit-back = rw (← unpacked-drop codes k) (record {
    long = omega (arith, length-drop k (unpacked codes), fit.long);
    each = λ i none l. rw (get_or-drop k (unpacked codes) i none) (fit.each (k + i) none (omega arith));
  })

pub fit-listed : {n : ℕ} (codes : List ℕ) → Fit n (unpacked codes) → Fit (length codes) (unpacked codes)
fit-listed codes fit = rw (packed-long codes fit) fit

-- The part of a list from index `at` on, as it is lent, and as it comes back.
module _ (codes : List ℕ) (at : ℕ) where
  abbrev part : List ℕ
  part = take (length codes - at) (drop at codes)

  part-whole : part ≡ drop at codes
  part-whole = take_all (length codes - at) (drop at codes) (omega (arith, length-drop at codes))

  pub part-long : length part ≡ length codes - at
  part-long = ap length part-whole ∙ length-drop at codes

  pub part-fit : {n : ℕ} → Fit n (unpacked codes) → at ≤ n → Fit (length part) (unpacked part)
  part-fit fit h = rw part-whole (fit-listed (drop at codes) (fit-back codes at fit h))

  pub part-back : (ys : List ℕ) → take at codes ++ (ys ++ drop (length codes - at) (drop at codes)) ≡ take at codes ++ ys
  part-back ys = ap (λ l. take at codes ++ (ys ++ l)) (drop_of_length-le (drop at codes) {i = length codes - at} (omega (arith, length-drop at codes))) ∙ ap (λ l. take at codes ++ l) (append-nil ys)

-- Codes that fit, and others after them.
pub fit-both : {n m : ℕ} (xs ys : List ℕ) → Fit n (unpacked xs) → Fit m (unpacked ys) → Fit (n + m) (unpacked (xs ++ ys))
fit-both {n} {m} xs ys f g = rw (map-append unpack xs ys) (record {
  long = omega (arith, length-append (unpacked xs) (unpacked ys), f.long, g.long);
  each = λ i none h. go i none h (dec_le n i);
})
  where
    go : (i : ℕ) (none : CodedField) → i < n + m → Dec (n ≤ i) → Fitting (get_or (unpacked xs ++ unpacked ys) i none).width (get_or (unpacked xs ++ unpacked ys) i none).code
    go i none h (no k) = rw (get_or-append (unpacked xs) (unpacked ys) none i (omega (arith, f.long, lt_of_not-le k))) (f.each i none (lt_of_not-le k))
    go i none h (yes k) =
        let e : length (unpacked xs) + (i - n) ≡ i = omega (arith, f.long) in
        rw (← e, get_or-append-add (unpacked xs) (unpacked ys) (i - n) none) (g.each (i - n) none (omega arith))

-- The pieces of a list with others after it.
module _ (t : Template) (xs ys : List ℕ) where
  pieces : map field_piece (unpacked (xs ++ ys)) ≡ map field_piece (unpacked xs) ++ map field_piece (unpacked ys)
  pieces = ap (map field_piece) (map-append unpack xs ys) ∙ map-append field_piece (unpacked xs) (unpacked ys)

  long : length (map field_piece (unpacked xs)) ≡ length xs
  long = length-map (unpacked xs) field_piece ∙ length-map xs unpack

  -- Those among the first are as before.
  pub list-front : (count : ℕ) → count ≤ length xs → length basic ≤ count → coded_list t (unpacked (xs ++ ys)) count ≡ coded_list t (unpacked xs) count
  list-front count h k = rw (
    pieces,
    take-append-le count (map field_piece (unpacked xs)) (map field_piece (unpacked ys)) (omega (arith, long)),
    take-append-le (length basic) (map field_piece (unpacked xs)) (map field_piece (unpacked ys)) (omega (arith, long)),
  )

  -- All of the first, and some after them.
  list-both : (k : ℕ) → length basic ≤ length xs → coded_list t (unpacked (xs ++ ys)) (length xs + k) ≡ coded_list t (unpacked xs) (length xs) ++ first_codes (unpacked ys) k
  list-both k h =
      let P : List Piece = map field_piece (unpacked xs) in
      let Q : List Piece = map field_piece (unpacked ys) in
      let B : List Piece = block_pieces (number_of t) in
      let all : take (length xs + k) (P ++ Q) ≡ P ++ take k Q = rw (← long) (take-append-add P Q k) in
      let whole : take (length xs) P ≡ P = rw (← long) (take_whole P) in
      rw (pieces, all, whole, take-append-le (length basic) P Q (omega (arith, long)), drop-append-le (length basic) P (take k Q) (omega (arith, long)))
      (sym (append_assoc (take (length basic) P) (B ++ drop (length basic) P) (take k Q) ∙ ap (λ l. take (length basic) P ++ l) (append_assoc B (drop (length basic) P) (take k Q))))
    where
      take_whole : (l : List Piece) → take (length l) l ≡ l
      take_whole [] = refl
      take_whole (p ∷ l) = ap (λ m. p ∷ m) (take_whole l)

-- Codes in place of those from index `at` on.
pub list-more : (t : Template) (codes ys : List ℕ) (at k : ℕ) → at ≤ length codes → length basic ≤ at →
    coded_list t (unpacked (take at codes ++ ys)) (at + k) ≡ coded_list t (unpacked codes) at ++ first_codes (unpacked ys) k
list-more t codes ys at k h b =
    let long : length (take at codes) ≡ at = length-take-le at codes h in
    let front : coded_list t (unpacked codes) at ≡ coded_list t (unpacked (take at codes)) at =
    ap (λ l. coded_list t (unpacked l) at) (sym (take-append-drop at codes)) ∙ list-front t (take at codes) (drop at codes) at (omega (arith, long)) b in
    rw front (rw long at (list-both t (take at codes) ys k (omega (arith, long))))

-- ---- the first codes of a block

-- They fit, and are the pieces of the block's start.
module _ (number domain width count : ℕ) where
  pub head-fit : {n : ℕ} (codes : List CodedField) → Fit n codes → number < 2 ^ 8 → domain < 2 → Fitting width count → Fit n (block_head codes number domain width count)
  unfolding block_head
  head-fit codes fit a b f = fit-more _ 3 _
      (fit-more _ 2 _ (fit-more _ 1 _ (fit-more codes 0 _ fit (record { some = omega arith; most = omega arith; fits = omega arith })) (record { some = omega arith; most = omega arith; fits = a })) (record { some = omega arith; most = omega arith; fits = b })) f

  pub head-pieces : (codes : List CodedField) → 3 < length codes → first_codes (block_head codes number domain width count) 4 ≡ block_pieces number ++ (piece 1 domain ∷ piece width count ∷ [])
  unfolding block_head
  head-pieces [] h = absurd (omega arith)
  head-pieces (a ∷ []) h = absurd (omega arith)
  head-pieces (a ∷ b ∷ []) h = absurd (omega arith)
  head-pieces (a ∷ b ∷ c ∷ []) h = absurd (omega arith)
  head-pieces (a ∷ b ∷ c ∷ d ∷ codes) h = refl

-- ---- bit strings

-- Two bit strings with others before and after them.
pub string-between : (front ps qs back : List Piece) → bit_string ps ≡ bit_string qs → bit_string (front ++ (ps ++ back)) ≡ bit_string (front ++ (qs ++ back))
string-between front ps qs back e =
    let bits : needed ps ≡ needed qs = ap (λ s. s.bits) e in
    let number : pack ps ≡ pack qs = ap (λ s. s.number) e in
    let n : needed (ps ++ back) ≡ needed (qs ++ back) = omega (arith, needed-append ps back, needed-append qs back) in
    let m : pack (ps ++ back) ≡ pack (qs ++ back) =
    pack-append ps back ∙ ap₂ (λ (i x : ℕ). pack back * 2 ^ i + x) bits number ∙ sym (pack-append qs back) in
    ap₂ (λ (i x : ℕ). record { bits = i; number = x })
    (omega (arith, needed-append front (ps ++ back), needed-append front (qs ++ back)))
    (pack-append front (ps ++ back) ∙ ap (λ (x : ℕ). x * 2 ^ needed front + pack front) m ∙ sym (pack-append front (qs ++ back)))

-- Two pieces as one code, the first in its lowest bits.
pub two-one : (w v c d : ℕ) → bit_string (piece w c ∷ piece v d ∷ []) ≡ bit_string (piece (w + v) (c + d * 2 ^ w) ∷ [])
two-one w v c d = ap₂ (λ (i x : ℕ). record { bits = i; number = x }) (omega arith) (omega (arith, zero-mul (2 ^ v), zero-mul (2 ^ (w + v))))

-- The image depends on the bit string alone.
pub fitted-same : (z : Sizes) (ps qs : List Piece) → bit_string ps ≡ bit_string qs → fitted z ps ≡ fitted z qs
unfolding fitted
fitted-same z ps qs e = rw (ap (λ s. s.bits) e, ap (λ s. s.number) e)
