-- Laws of the code: it computes what the definitions say.
use Rattle.writing.proofs.Names.{◌≡◌, refl, sym, ap, ◌∙◌, Bool, true, false, not, ◌&&◌, cond, List, ◌++◌, ℕ, zero, suc, ◌+◌, ◌-◌, ◌*◌, ◌/◌, ◌%◌, ◌≤◌, ◌<◌, arith, add-one, zero-add, ℕ_discrete, eqb, ltb}
use Rattle.writing.proofs.Names.{length, take, drop, get_or, set, take_all, take-set-lt, drop-set-add, eq-eqb, ne_eqb, Sizes, image_bytes, total, page_sum}
use Rattle.writing.proofs.Names.{total-append, count, last, row, rows, check_row, covered_rows, written, differing, last_row, last_other, raised, done, write_row, adds_up, raise_by, sum_ahead, one_page, unsealed}
use Rattle.writing.proofs.Names.{invalidate_first, several_pages, Tally, tally_to, tallied, last_for, differs, Option, None, Some}
use Rattle.writing.proofs.NumberLaws.{count-false}
use Rattle.writing.proofs.RowLaws.{byte-of, row-ext}
use Rattle.writing.proofs.PageLaws.{raised-length, raised-other, whole_row}

-- ---- the tally

pub count-le : (test : ℕ → Bool) (n : ℕ) → count test n ≤ n
count-le test zero = omega arith
count-le test (suc n) = go (test n) (count-le test n)
  where
    go : (b : Bool) → count test n ≤ n → cond b 1 0 + count test n ≤ suc n
    go true h = omega arith
    go false h = omega arith

module _ (p w : List ℕ) (check i : ℕ) (t : Tally) (e : t ≡ tally_to p w check i) where
  pub tally-more : differs p w i ≡ true → tallied t i check ≡ tally_to p w check (i + 1)
  tally-more f = rw (e, add-one i, f)

  pub tally-on : differs p w i ≡ false → t ≡ tally_to p w check (i + 1)
  tally-on f = e ∙ sym (rw (add-one i, f, zero-add))

-- ---- a row with a byte raised

module _ (l : List ℕ) (at d r : ℕ) (h : 8 * r + 8 ≤ length l) where
  pub raised-in : at / 8 ≡ r → set (row r l) (at % 8) ((get_or (row r l) (at % 8) 0 + d) % 256) ≡ row r (raised l at d)
  raised-in e =
      let f : 8 * r + at % 8 ≡ at = omega arith in
      let b : get_or (row r l) (at % 8) 0 ≡ get_or l at 0 =
      byte-of l r (at % 8) (omega arith) ∙ ap (λ (i : ℕ). get_or l i 0) f in
      ap (λ (x : ℕ). set (row r l) (at % 8) ((x + d) % 256)) b
      ∙ sym
      (ap (λ (i : ℕ). row r (set l i ((get_or l at 0 + d) % 256))) (sym f) ∙ ap (take 8) (drop-set-add (8 * r) l (at % 8) _)
      ∙ take-set-lt 8 (drop (8 * r) l) (at % 8) _ (omega arith))

  pub raised-out : (at / 8 ≡ r → ⊥) → row r l ≡ row r (raised l at d)
  raised-out n = row-ext l (raised l at d) r h (omega (arith, raised-length l at d)) (λ i e. sym (raised-other l at d i (λ f. n (omega arith))))

-- ---- the last row that differs

pub last-here : (test : ℕ → Bool) (n i : ℕ) → i < n → test i ≡ true → ((k : ℕ) → i < k → k < n → test k ≡ false) → Some i ≡ last_for test n
last-here test n i h e f = let (some, is) = go n h f in rw (ne_eqb (count test n) 0 some, is)
  where
    go : (n : ℕ) → i < n → ((k : ℕ) → i < k → k < n → test k ≡ false) → (count test n ≡ 0 → ⊥) × (last test n ≡ i)
    go zero h f = absurd (omega arith)
    go (suc n) h f = at (ℕ_discrete n i) (go n)
      where
        at : Dec (n ≡ i) → (i < n → ((k : ℕ) → i < k → k < n → test k ≡ false) → (count test n ≡ 0 → ⊥) × (last test n ≡ i))
            → (count test (suc n) ≡ 0 → ⊥) × (last test (suc n) ≡ i)
        at (yes d) ih = rw (d, e) (λ x. omega arith, refl)
        at (no d) ih = let (some, is) = ih (omega arith) (λ k l m. f k l (omega arith)) in rw (f n (omega arith) (omega arith)) (λ x. some (omega arith), is)

-- A property that holds behind r and at r holds from r on.
pub behind_more : (P : ℕ → Type 0) (r n : ℕ) → ((k : ℕ) → r + 1 ≤ k → k < n → P k) → P r → (k : ℕ) → r ≤ k → k < n → P k
behind_more P r n behind here k h l = go (ℕ_discrete r k)
  where
    go : Dec (r ≡ k) → P k
    go (yes e) = rw e at here
    go (no e) = behind k (omega arith) l

pub last_none : (test : ℕ → Bool) (n : ℕ) → ((k : ℕ) → k < n → test k ≡ false) → None ≡ last_for test n
last_none test n f = rw (count-false test n f)

pub none-for : (test : ℕ → Bool) (n : ℕ) → last_for test n ≡ None → count test n ≡ 0
none-for test n e = go (ℕ_discrete (count test n) 0)
  where
    go : Dec (count test n ≡ 0) → count test n ≡ 0
    go (yes d) = d
    go (no d) = let x : ◌≡◌ {A = Option ℕ} (Some (last test n)) None = sym (rw (ne_eqb (count test n) 0 d)) ∙ e in let z : ◌≡◌ {A = ℕ} 0 1 = cc in absurd (omega arith)

pub some-for : (test : ℕ → Bool) (n i : ℕ) → last_for test n ≡ Some i → (count test n ≡ 0 → ⊥) × (last test n ≡ i)
some-for test n i e = go (ℕ_discrete (count test n) 0)
  where
    go : Dec (count test n ≡ 0) → (count test n ≡ 0 → ⊥) × (last test n ≡ i)
    go (yes d) = let x : ◌≡◌ {A = Option ℕ} None (Some i) = sym (rw d) ∙ e in let z : ◌≡◌ {A = ℕ} 0 1 = cc in absurd (omega arith)
    go (no d) = let x : ◌≡◌ {A = Option ℕ} (Some (last test n)) (Some i) = sym (rw (ne_eqb (count test n) 0 d)) ∙ e in (d, cc)

-- ---- the sum with a row as in another image

pub sum_row : (p w : List ℕ) (r : ℕ) → length w ≡ length p → 8 * r + 8 ≤ length p → total (written r (row r w) p) + total (row r p) ≡ total p + total (row r w)
sum_row p w r e h = omega (arith, parts w, parts p, ap total (whole_row p p r refl h (λ i l n. refl)))
  where
    parts : (l : List ℕ) → total (written r (row r l) p) ≡ total (take (8 * r) p) + (total (row r l) + total (drop (8 * r + 8) p))
    parts l = total-append (take (8 * r) p) (row r l ++ drop (8 * r + 8) p) ∙ ap (λ (x : ℕ). total (take (8 * r) p) + x) (total-append (row r l) (drop (8 * r + 8) p))

-- A sum with one part replaced by another, modulo 256.
pub sum-exchanged : (own a b whole part other new : ℕ) → own ≡ whole % 256 → a ≡ part % 256 → b ≡ other % 256 → new + part ≡ whole + other
    → ((own + (256 - a)) % 256 + b) % 256 ≡ new % 256
sum-exchanged own a b whole part other new e f g h = omega arith

pub part-row : (l : List ℕ) (r : ℕ) → total (take (8 * r + 8 - 8 * r) (drop (8 * r) l)) ≡ total (row r l)
part-row l r = let e : 8 * r + 8 - 8 * r ≡ 8 = omega arith in ap (λ (n : ℕ). total (take n (drop (8 * r) l))) e

-- In an image of one page, its check byte covers all.
pub all-covered : (z : Sizes) (l : List ℕ) → length l ≡ image_bytes z → 1 ≤ z.pages → z.pages < 2 → page_sum z l 0 ≡ total l % 256
all-covered z l e one two = ap (λ (x : List ℕ). total x % 256) (take_all (z.register + 32) l (omega arith))

-- ---- the step

module _ (z : Sizes) (p w : List ℕ) (t : Tally) (e : t ≡ tally_to p w (check_row z) (rows z)) where
  pub tally-rows : differing z p w ≡ t.rows
  tally-rows = sym (ap (λ (x : Tally). x.rows) e)

  pub tally-last : last_row z p w ≡ t.last
  tally-last = sym (ap (λ (x : Tally). x.last) e)

  pub tally-other : last_other z p w ≡ t.other
  tally-other = sym (ap (λ (x : Tally). x.other) e)

  tally-not : (n : ℕ) → (t.rows ≡ n → ⊥) → differing z p w ≡ n → ⊥
  tally-not n f d = f (sym tally-rows ∙ d)

  pub one-page-done : t.rows ≡ 0 → done ≡ one_page z p w
  unfolding one_page
  one-page-done h = rw (eq-eqb (differing z p w) 0 (tally-rows ∙ h))

  module _ (some : t.rows ≡ 0 → ⊥) where
    pub one-page-one : t.rows ≡ 1 → write_row w t.last ≡ one_page z p w
    unfolding one_page
    one-page-one h = ap (write_row w) (sym tally-last) ∙ rw (ne_eqb (differing z p w) 0 (tally-not 0 some), eq-eqb (differing z p w) 1 (tally-rows ∙ h))

    module _ (more : t.rows ≡ 1 → ⊥) (a b : ℕ) (ea : a ≡ page_sum z p 0) (eb : b ≡ page_sum z (written t.other (row t.other w) p) 0) where
      sum-ahead : sum_ahead z p w ≡ b
      unfolding sum_ahead
      sum-ahead = ap (λ (r : ℕ). page_sum z (written r (row r w) p) 0) tally-other ∙ sym eb

      pub one-page-invalidate : true ≡ adds_up a b 0 → write_row (raised p z.register (raise_by a b)) (check_row z) ≡ one_page z p w
      unfolding one_page
      one-page-invalidate h =
          rw (ne_eqb (differing z p w) 0 (tally-not 0 some), ne_eqb (differing z p w) 1 (tally-not 1 more)) (rw (sym ea, sum-ahead) (rw (sym h)))

      pub one-page-on : false ≡ adds_up a b 0 → write_row w t.other ≡ one_page z p w
      unfolding one_page
      one-page-on h =
          ap (write_row w) (sym tally-other)
          ∙ rw (ne_eqb (differing z p w) 0 (tally-not 0 some), ne_eqb (differing z p w) 1 (tally-not 1 more)) (rw (sym ea, sum-ahead) (rw (sym h)))

module _ (z : Sizes) (p w : List ℕ) where
  module _ (some : false ≡ eqb (differing z p w) 0) where
    pub several-last : differing z p (unsealed z w) ≡ 0 → write_row w (covered_rows z) ≡ several_pages z p w
    unfolding several_pages
    several-last h = rw (sym some, eq-eqb (differing z p (unsealed z w)) 0 h)

    module _ (more : differing z p (unsealed z w) ≡ 0 → ⊥) (r : ℕ) (is : last_row z p (unsealed z w) ≡ r) where
      pub several-invalidate : true ≡ (not (ltb r (covered_rows z)) && eqb (page_sum z p 0) 0) → write_row (raised p z.register 1) (check_row z) ≡ several_pages z p w
      unfolding several_pages invalidate_first
      several-invalidate h = rw (sym some, ne_eqb (differing z p (unsealed z w)) 0 more) (rw is (rw (sym h)))

      pub several-on : false ≡ (not (ltb r (covered_rows z)) && eqb (page_sum z p 0) 0) → write_row (unsealed z w) r ≡ several_pages z p w
      unfolding several_pages invalidate_first
      several-on h = ap (write_row (unsealed z w)) (sym is) ∙ rw (sym some, ne_eqb (differing z p (unsealed z w)) 0 more) (rw is (rw (sym h)))
