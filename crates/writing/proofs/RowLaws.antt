-- Laws of rows: the bytes of an image after a row is written, and which rows differ.
use Rattle.writing.proofs.Names.{◌≡◌, refl, sym, ap, ◌∙◌, true, false, not, List, [], ◌∷◌, ◌++◌, ℕ, zero, suc, ◌+◌, ◌-◌, ◌*◌, ◌/◌, ◌%◌, ◌≤◌, ◌<◌, arith, ℕ_discrete, dec_lt, eqb, length, take, drop, get_or, set}
use Rattle.writing.proofs.Names.{length-append, length-drop, length-take, length-take-le, get_or-take, get_or-drop, ext_get_or, eqb-true, eq-eqb, not-false, both, Sizes, total, page_sum, get_d_front, get_d_past, row}
use Rattle.writing.proofs.Names.{written, same, differs, Bool, pointwise, nat_eq, slice_eq-Decides, true≢false}
use Rattle.std.specs.Bool.{Decides}

pub byte-of : (l : List ℕ) (r i : ℕ) → i < 8 → get_or (row r l) i 0 ≡ get_or l (8 * r + i) 0
byte-of l r i h = get_or-take 8 (drop (8 * r) l) i 0 h ∙ get_or-drop (8 * r) l i 0

-- ---- a row written

module _ (r : ℕ) (t l : List ℕ) (alike : length t ≡ length l) (h : 8 * r + 8 ≤ length l) where
  pub row-length : length (row r t) ≡ 8
  row-length = length-take-le 8 (drop (8 * r) t) (omega (arith, length-drop (8 * r) t))

  front_length : length (take (8 * r) l) ≡ 8 * r
  front_length = length-take-le (8 * r) l (omega arith)

  abbrev over : List ℕ
  over = written r (row r t) l

  pub over-length : length (written r (row r t) l) ≡ length l
  over-length =
      omega (
        arith,
        length-append (take (8 * r) l) (row r t ++ drop (8 * r + 8) l),
        length-append (row r t) (drop (8 * r + 8) l),
        front_length,
        row-length,
        length-drop (8 * r + 8) l,
      )

  past : (i : ℕ) → 8 * r ≤ i → get_or over i 0 ≡ get_or (row r t ++ drop (8 * r + 8) l) (i - 8 * r) 0
  past i h = get_d_past (take (8 * r) l) (row r t ++ drop (8 * r + 8) l) (8 * r) i front_length h

  -- A byte of the row, and a byte of any other row.
  pub over-in : (i : ℕ) → i / 8 ≡ r → get_or (written r (row r t) l) i 0 ≡ get_or t i 0
  over-in i e =
      let b : i - 8 * r < 8 = omega arith in
      let f : 8 * r + (i - 8 * r) ≡ i = omega arith in
      past i (omega arith) ∙ get_d_front (row r t) (drop (8 * r + 8) l) 8 (i - 8 * r) row-length b
      ∙ byte-of t r (i - 8 * r) b ∙ ap (λ (j : ℕ). get_or t j 0) f

  pub over-out : (i : ℕ) → (i / 8 ≡ r → ⊥) → get_or (written r (row r t) l) i 0 ≡ get_or l i 0
  over-out i n = go (dec_lt i (8 * r))
    where
      go : Dec (i < 8 * r) → get_or over i 0 ≡ get_or l i 0
      go (yes s) = get_d_front (take (8 * r) l) (row r t ++ drop (8 * r + 8) l) (8 * r) i front_length s ∙ get_or-take (8 * r) l i 0 s
      go (no s) =
          let m : 8 ≤ i - 8 * r = omega (arith, n) in
          let f : 8 * r + 8 + (i - 8 * r - 8) ≡ i = omega arith in
          past i (omega arith) ∙ get_d_past (row r t) (drop (8 * r + 8) l) 8 (i - 8 * r) row-length m
          ∙ get_or-drop (8 * r + 8) l (i - 8 * r - 8) 0 ∙ ap (λ (j : ℕ). get_or l j 0) f

-- A byte of two equal rows.
pub row-byte : (p w : List ℕ) (r : ℕ) → row r p ≡ row r w → (i : ℕ) → i / 8 ≡ r → get_or p i 0 ≡ get_or w i 0
row-byte p w r e i d = sym (one p) ∙ ap (λ (l : List ℕ). get_or l (i - 8 * r) 0) e ∙ one w
  where
    one : (l : List ℕ) → get_or (row r l) (i - 8 * r) 0 ≡ get_or l i 0
    one l = let f : 8 * r + (i - 8 * r) ≡ i = omega arith in byte-of l r (i - 8 * r) (omega arith) ∙ ap (λ (j : ℕ). get_or l j 0) f

-- Rows of which all bytes are equal.
pub row-ext : (p w : List ℕ) (r : ℕ) → 8 * r + 8 ≤ length p → 8 * r + 8 ≤ length w → ((i : ℕ) → i / 8 ≡ r → get_or p i 0 ≡ get_or w i 0) → row r p ≡ row r w
row-ext p w r h k f = ext_get_or 0 _ _ (long p h ∙ sym (long w k)) (λ i l. at i (omega (arith, long p h)))
  where
    long : (l : List ℕ) → 8 * r + 8 ≤ length l → length (row r l) ≡ 8
    long l h = length-take-le 8 (drop (8 * r) l) (omega (arith, length-drop (8 * r) l))

    at : (i : ℕ) → i < 8 → get_or (row r p) i 0 ≡ get_or (row r w) i 0
    at i l = byte-of p r i l ∙ f (8 * r + i) (omega arith) ∙ sym (byte-of w r i l)

-- ---- rows that differ

upwards : (P : ℕ → Type 0) (i k n : ℕ) → P i → (suc i ≤ k → k < suc i + n → P k) → i ≤ k → k < i + suc n → P k
upwards P i k n here behind h l = go (ℕ_discrete i k)
  where
    go : Dec (i ≡ k) → P k
    go (yes e) = rw e at here
    go (no e) = behind (omega arith) (omega arith)

module _ (p w : List ℕ) where
  same_true : (n i : ℕ) → same p w n i ≡ true → (k : ℕ) → i ≤ k → k < i + n → get_or p k 0 ≡ get_or w k 0
  unfolding same
  same_true zero i e k h l = absurd (omega arith)
  same_true (suc n) i e k h l =
      let (first, others) = both (eqb (get_or p i 0) (get_or w i 0)) (same p w n (suc i)) e in
      upwards (λ j. get_or p j 0 ≡ get_or w j 0) i k n (eqb-true _ _ first) (same_true n (suc i) others k) h l

  true_same : (n i : ℕ) → ((k : ℕ) → i ≤ k → k < i + n → get_or p k 0 ≡ get_or w k 0) → same p w n i ≡ true
  unfolding same
  true_same zero i f = refl
  true_same (suc n) i f = rw (eq-eqb (get_or p i 0) (get_or w i 0) (f i (omega arith) (omega arith))) (true_same n (suc i) (λ k h l. f k (omega arith) (omega arith)))

  pub alike : (r : ℕ) → differs p w r ≡ false → (i : ℕ) → i / 8 ≡ r → get_or p i 0 ≡ get_or w i 0
  alike r e i d = same_true 8 (8 * r) (not-false _ e) i (omega arith) (omega arith)

  pub differs-not : (r : ℕ) → ((i : ℕ) → i / 8 ≡ r → get_or p i 0 ≡ get_or w i 0) → differs p w r ≡ false
  differs-not r f = rw (true_same 8 (8 * r) (λ k h l. f k (omega arith)))

-- `==` of bytes.
bytes-eq : (l m : List ℕ) (b : Bool) → b ≡ pointwise nat_eq l m → Decides b (l ≡ m)
bytes-eq l m = slice_eq-Decides (λ x y. (eqb-true x y, eq-eqb x y)) l m

pub equal-bytes : (l m : List ℕ) (b : Bool) → b ≡ pointwise nat_eq l m → b ≡ true → l ≡ m
equal-bytes l m b e = (bytes-eq l m b e).0

pub unequal-bytes : (l m : List ℕ) (b : Bool) → b ≡ pointwise nat_eq l m → b ≡ false → l ≡ m → ⊥
unequal-bytes l m b e f d = true≢false (sym ((bytes-eq l m b e).1 d) ∙ f)

pub row-same : (p w : List ℕ) (r : ℕ) → 8 * r + 8 ≤ length p → 8 * r + 8 ≤ length w → (b : Bool) → b ≡ pointwise nat_eq (row r p) (row r w) → b ≡ same p w 8 (8 * r)
row-same p w r h k b e = go b (same p w 8 (8 * r)) (λ t. true_same p w 8 (8 * r) (λ i l m. row-byte p w r (d.0 t) i (omega arith))) (λ t. d.1 (row-ext p w r h k (λ i f. same_true p w 8 (8 * r) t i (omega arith) (omega arith))))
  where
    d : Decides b (row r p ≡ row r w)
    d = bytes-eq (row r p) (row r w) b e

    go : (s t : Bool) → (s ≡ true → t ≡ true) → (t ≡ true → s ≡ true) → s ≡ t
    go true t f g = sym (f refl)
    go false true f g = g refl
    go false false f g = refl

-- Whether a row differs depends only on its bytes.
same-same : (p q w : List ℕ) (n i : ℕ) → ((k : ℕ) → i ≤ k → k < i + n → get_or p k 0 ≡ get_or q k 0) → same p w n i ≡ same q w n i
unfolding same
same-same p q w zero i f = refl
same-same p q w (suc n) i f = rw (f i (omega arith) (omega arith), same-same p q w n (suc i) (λ k h l. f k (omega arith) (omega arith)))

pub differs-same : (p q w : List ℕ) (r : ℕ) → ((i : ℕ) → i / 8 ≡ r → get_or p i 0 ≡ get_or q i 0) → differs p w r ≡ differs q w r
differs-same p q w r f = ap not (same-same p q w 8 (8 * r) (λ k h l. f k (omega arith)))

-- Whether it differs from another image depends only on that image's bytes.
pub same-to : (p u w : List ℕ) (n i : ℕ) → ((k : ℕ) → i ≤ k → k < i + n → get_or u k 0 ≡ get_or w k 0) → same p u n i ≡ same p w n i
unfolding same
same-to p u w zero i f = refl
same-to p u w (suc n) i f = rw (f i (omega arith) (omega arith), same-to p u w n (suc i) (λ k h l. f k (omega arith) (omega arith)))

pub differs-to : (p u w : List ℕ) (r : ℕ) → ((i : ℕ) → i / 8 ≡ r → get_or u i 0 ≡ get_or w i 0) → differs p u r ≡ differs p w r
differs-to p u w r f = ap not (same-to p u w 8 (8 * r) (λ k h l. f k (omega arith)))

-- ---- page 0's sum

-- Page 0's sum depends only on the bytes that its check byte covers.
pub first-same : (z : Sizes) (l m : List ℕ) → length l ≡ length m → ((i : ℕ) → i < z.register + 32 → get_or l i 0 ≡ get_or m i 0) → page_sum z l 0 ≡ page_sum z m 0
first-same z l m e f =
    ap (λ (x : List ℕ). total x % 256)
    (ext_get_or 0 (take (z.register + 32) l) (take (z.register + 32) m) (omega (arith, length-take (z.register + 32) l, length-take (z.register + 32) m))
    (λ i h. at i (omega (arith, length-take (z.register + 32) l))))
  where
    at : (i : ℕ) → i < z.register + 32 → get_or (take (z.register + 32) l) i 0 ≡ get_or (take (z.register + 32) m) i 0
    at i h = get_or-take (z.register + 32) l i 0 h ∙ f i h ∙ sym (get_or-take (z.register + 32) m i 0 h)

pub total-set : (l : List ℕ) (i b : ℕ) → i < length l → total (set l i b) + get_or l i 0 ≡ total l + b
total-set [] i b h = absurd (omega arith)
total-set (x ∷ l) zero b h = omega arith
total-set (x ∷ l) (suc i) b h = omega (arith, total-set l i b (omega arith))
