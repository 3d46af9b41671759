-- Laws of a raised byte, of the sums of pages 0 and 1, and of the rows of images that fit.
use Rattle.writing.proofs.Names.{false, eqb, ne_eqb, ◌≡◌, refl, sym, ap, ◌∙◌, List, ℕ, ◌+◌, ◌-◌, ◌*◌, ◌/◌, ◌%◌, ◌≤◌, ◌<◌, arith, ℕ_discrete, dec_lt, length, take, drop, get_or, set, length-set, length-drop, get_or-eq_default}
use Rattle.writing.proofs.Names.{length-take-le, ext_get_or, get_or-take, get_or-drop, get_or-set_same, get_or-set_other, Outcome, Ok, Err, Sizes, Bytes, image_bytes, page_at, total, page_sum, sums, sums-right, row}
use Rattle.writing.proofs.Names.{rows, check_row, written, differs, differing, raised, Refuses, Fits}
use Rattle.writing.proofs.NumberLaws.{count-false, count_none}
use Rattle.writing.proofs.RowLaws.{over-length, over-in, over-out, alike, differs-not, total-set}

-- ---- one byte

-- The images are equal except at one offset.
abbrev pub But : ℕ → List ℕ → List ℕ → Type 0
But at l m = (i : ℕ) → (i ≡ at → ⊥) → get_or l i 0 ≡ get_or m i 0

but-total : (l m : List ℕ) (at : ℕ) → length l ≡ length m → at < length l → ((i : ℕ) → i < length l → (i ≡ at → ⊥) → get_or l i 0 ≡ get_or m i 0)
    → total l + get_or m at 0 ≡ total m + get_or l at 0
but-total l m at e h f = omega (arith, total-set l at (get_or m at 0) h, ap total whole)
  where
    whole : set l at (get_or m at 0) ≡ m
    whole = ext_get_or 0 _ m (length-set l at (get_or m at 0) ∙ e) (λ i k. go i (omega (arith, length-set l at (get_or m at 0))) (ℕ_discrete i at))
      where
        go : (i : ℕ) → i < length l → Dec (i ≡ at) → get_or (set l at (get_or m at 0)) i 0 ≡ get_or m i 0
        go i k (yes d) = rw d (get_or-set_same l at (get_or m at 0) 0 h)
        go i k (no d) = get_or-set_other l at i (get_or m at 0) 0 d ∙ f i k d

-- One byte of a part is determined by the sum and the other bytes.
module _ (l m : List ℕ) (e : length l ≡ length m) (a n at : ℕ) (room : a + n ≤ length l) (low : a ≤ at) (high : at < a + n) (f : But at l m) where
  part_at : (k : List ℕ) (i : ℕ) → i < n → get_or (take n (drop a k)) i 0 ≡ get_or k (a + i) 0
  part_at k i h = get_or-take n (drop a k) i 0 h ∙ get_or-drop a k i 0

  part_length : (k : List ℕ) → length k ≡ length l → length (take n (drop a k)) ≡ n
  part_length k d = length-take-le n (drop a k) (omega (arith, length-drop a k))

  one_told : total (take n (drop a l)) % 256 ≡ 0 → total (take n (drop a m)) % 256 ≡ 0 → get_or l at 0 % 256 ≡ get_or m at 0 % 256
  one_told sl sm =
      omega (arith, but-total (take n (drop a l)) (take n (drop a m)) (at - a) (part_length l refl ∙ sym (part_length m (sym e))) (omega (arith, part_length l refl)) others, here l, here m)
    where
      here : (k : List ℕ) → get_or (take n (drop a k)) (at - a) 0 ≡ get_or k at 0
      here k = let d : a + (at - a) ≡ at = omega arith in part_at k (at - a) (omega arith) ∙ ap (λ (i : ℕ). get_or k i 0) d

      others : (i : ℕ) → i < length (take n (drop a l)) → (i ≡ at - a → ⊥) → get_or (take n (drop a l)) i 0 ≡ get_or (take n (drop a m)) i 0
      others i k d =
          let h : i < n = omega (arith, part_length l refl) in
          part_at l i h ∙ f (a + i) (λ x. d (omega arith)) ∙ sym (part_at m i h)

-- ---- two pages

module _ (z : Sizes) (l m : List ℕ) (e : length l ≡ length m) (room : z.register + 64 ≤ length l) where
  pub first-told : But z.register l m → page_sum z l 0 ≡ 0 → page_sum z m 0 ≡ 0 → get_or l z.register 0 % 256 ≡ get_or m z.register 0 % 256
  first-told f = one_told l m e 0 (z.register + 32) z.register (omega arith) (omega arith) (omega arith) f

  pub second-told : But (page_at z 1) l m → page_sum z l 1 ≡ 0 → page_sum z m 1 ≡ 0 → get_or l (page_at z 1) 0 % 256 ≡ get_or m (page_at z 1) 0 % 256
  second-told f = one_told l m e (page_at z 1) 32 (page_at z 1) (omega arith) (omega arith) (omega arith) f

  -- Page 1's sum depends only on its bytes.
  pub second-same : ((i : ℕ) → page_at z 1 ≤ i → i < page_at z 1 + 32 → get_or l i 0 ≡ get_or m i 0) → page_sum z l 1 ≡ page_sum z m 1
  second-same f =
      ap (λ (x : List ℕ). total x % 256)
      (ext_get_or 0 (take 32 (drop (page_at z 1) l)) (take 32 (drop (page_at z 1) m)) (long l refl ∙ sym (long m (sym e))) (λ i h. at i (omega (arith, long l refl))))
    where
      long : (k : List ℕ) → length k ≡ length l → length (take 32 (drop (page_at z 1) k)) ≡ 32
      long k d = length-take-le 32 (drop (page_at z 1) k) (omega (arith, length-drop (page_at z 1) k))

      one : (k : List ℕ) (i : ℕ) → i < 32 → get_or (take 32 (drop (page_at z 1) k)) i 0 ≡ get_or k (page_at z 1 + i) 0
      one k i h = get_or-take 32 (drop (page_at z 1) k) i 0 h ∙ get_or-drop (page_at z 1) k i 0

      at : (i : ℕ) → i < 32 → get_or (take 32 (drop (page_at z 1) l)) i 0 ≡ get_or (take 32 (drop (page_at z 1) m)) i 0
      at i h = one l i h ∙ f (page_at z 1 + i) (omega arith) (omega arith) ∙ sym (one m i h)

-- An image with a page that does not add up is refused.
pub refused-by : (z : Sizes) (image : List ℕ) (q : ℕ) → q < z.pages → (page_sum z image q ≡ 0 → ⊥) → Refuses z image
refused-by z image q h n = go (sums z image) refl
  where
    go : (o : Outcome (Unit {0})) → sums z image ≡ o → Refuses z image
    go (Ok tt) e = absurd (n (sums-right z image e q h))
    go (Err why) e = (why, e)

-- ---- a byte raised

module _ (l : List ℕ) (at d : ℕ) where
  pub raised-length : length (raised l at d) ≡ length l
  raised-length = length-set l at _

  pub raised-other : But at (raised l at d) l
  raised-other i n = get_or-set_other l at i _ 0 n

  pub raised_at : at < length l → get_or (raised l at d) at 0 ≡ (get_or l at 0 + d) % 256
  raised_at h = get_or-set_same l at _ 0 h

pub raised-differs : (l : List ℕ) (at : ℕ) → at < length l → get_or (raised l at 1) at 0 % 256 ≡ get_or l at 0 % 256 → ⊥
raised-differs l at h e = omega (arith, raised_at l at 1 h)

pub raised-bytes : (l : List ℕ) (at d : ℕ) → Bytes l → Bytes (raised l at d)
raised-bytes l at d bytes i = go (ℕ_discrete i at) (dec_lt at (length l))
  where
    go : Dec (i ≡ at) → Dec (at < length l) → get_or (raised l at d) i 0 < 256
    go (no n) h = omega (arith, raised-other l at d i n, bytes i)
    go (yes e) (yes h) = rw e (omega (arith, raised_at l at d h))
    go (yes e) (no h) = rw e (omega (arith, get_or-eq_default (raised l at d) 0 {n = at} (omega (arith, raised-length l at d))))

-- Page 0's sum, with its check byte raised.
pub raised-sum : (z : Sizes) (l : List ℕ) → z.register + 32 ≤ length l → (d : ℕ) → page_sum z (raised l z.register d) 0 ≡ (page_sum z l 0 + d) % 256
raised-sum z l room d =
    omega (
      arith,
      but-total (part (raised l z.register d)) (part l) z.register (long (raised l z.register d) (raised-length l z.register d) ∙ sym (long l refl))
          (omega (arith, long (raised l z.register d) (raised-length l z.register d)))
          (λ i h n. at (raised l z.register d) i (below i h) ∙ raised-other l z.register d i n ∙ sym (at l i (below i h))),
      at (raised l z.register d) z.register (omega arith),
      at l z.register (omega arith),
      raised_at l z.register d (omega arith),
    )
  where
    part : List ℕ → List ℕ
    part k = take (z.register + 32) k

    long : (k : List ℕ) → length k ≡ length l → length (part k) ≡ z.register + 32
    long k e = length-take-le (z.register + 32) k (omega arith)

    at : (k : List ℕ) (i : ℕ) → i < z.register + 32 → get_or (part k) i 0 ≡ get_or k i 0
    at k i h = get_or-take (z.register + 32) k i 0 h

    below : (i : ℕ) → i < length (part (raised l z.register d)) → i < z.register + 32
    below i h = omega (arith, long (raised l z.register d) (raised-length l z.register d))

-- Images that are equal except at one offset, and there too, are equal.
pub but_same : (l m : List ℕ) (at : ℕ) → length l ≡ length m → But at l m → get_or l at 0 ≡ get_or m at 0 → l ≡ m
but_same l m at e f d = ext_get_or 0 l m e (λ i h. go i (ℕ_discrete i at))
  where
    go : (i : ℕ) → Dec (i ≡ at) → get_or l i 0 ≡ get_or m i 0
    go i (yes k) = rw k d
    go i (no k) = f i k

-- ---- rows

pub written-bytes : (r : ℕ) (t l : List ℕ) → length t ≡ length l → 8 * r + 8 ≤ length l → Bytes t → Bytes l → Bytes (written r (row r t) l)
written-bytes r t l e h bt bl i = go (ℕ_discrete (i / 8) r)
  where
    go : Dec (i / 8 ≡ r) → get_or (written r (row r t) l) i 0 < 256
    go (yes d) = omega (arith, over-in r t l e h i d, bt i)
    go (no d) = omega (arith, over-out r t l e h i d, bl i)

-- If only one row differs, writing it makes the images equal.
pub whole_row : (p t : List ℕ) (q : ℕ) → length t ≡ length p → 8 * q + 8 ≤ length p → ((i : ℕ) → i < length p → (i / 8 ≡ q → ⊥) → get_or t i 0 ≡ get_or p i 0)
    → written q (row q t) p ≡ t
whole_row p t q e h f = ext_get_or 0 _ t (over-length q t p e h ∙ sym e) (λ i l. go i (omega (arith, over-length q t p e h)) (ℕ_discrete (i / 8) q))
  where
    go : (i : ℕ) → i < length p → Dec (i / 8 ≡ q) → get_or (written q (row q t) p) i 0 ≡ get_or t i 0
    go i l (yes d) = over-in q t p e h i d
    go i l (no d) = over-out q t p e h i d ∙ sym (f i l d)

pub same_none : (z : Sizes) (w : List ℕ) → differing z w w ≡ 0
same_none z w = count-false (differs w w) (rows z) (λ k h. differs-not w w k (λ i e. refl))

module _ (z : Sizes) (p w : List ℕ) (fits : Fits z p w) where
  pub alike-length : length w ≡ length p
  alike-length = fits.asked ∙ sym fits.held

  -- Each byte has its row.
  pub row_below : (i : ℕ) → i < image_bytes z → i / 8 < rows z
  row_below i h = omega (arith, fits.whole)

  pub row_room : (r : ℕ) → r < rows z → 8 * r + 8 ≤ length p
  row_room r h = omega (arith, fits.held)

  pub check-below : check_row z < rows z
  check-below = omega (arith, fits.paged, fits.whole)

  -- No row differs: the image is there.
  pub none-differs : differing z p w ≡ 0 → p ≡ w
  none-differs e =
      ext_get_or 0 p w (sym alike-length)
      (λ i h. alike p w (i / 8) (count_none (differs p w) (rows z) e (i / 8) (row_below i (omega (arith, fits.held)))) i refl)

  pub some_differ : (p ≡ w → ⊥) → false ≡ eqb (differing z p w) 0
  some_differ n = sym (ne_eqb (differing z p w) 0 (λ e. n (none-differs e)))

  pub not_yet : (differing z p w ≡ 0 → ⊥) → p ≡ w → ⊥
  not_yet n e = n (rw e (same_none z w))

  -- An image of the same length fits too.
  pub refit : (x : List ℕ) → length x ≡ length p → Fits z x w
  refit x e = record { held = e ∙ fits.held; asked = fits.asked; paged = fits.paged; few = fits.few; most = fits.most; whole = fits.whole }
