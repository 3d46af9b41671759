-- Laws of a step with one page: what the chip holds after it, and how many steps are left.
use Rattle.writing.proofs.Names.{◌≡◌, refl, sym, ap, ◌∙◌, Bool, true, false, not, ◌&&◌, cond, true≢false, List, ◌⊎◌, inl, inr, ℕ, ◌+◌, ◌-◌, ◌*◌, ◌/◌, ◌%◌, ◌≤◌, ◌<◌, arith, ℕ_discrete, eqb, ltb, length, get_or}
use Rattle.writing.proofs.Names.{ext_get_or, ltb-true, eqb-true, eqb-false, eq-eqb, ne_eqb, not-true, le-ltb, both, neither, Sizes, Bytes, page_sum, count, row, rows, check_row, written, differs, differing, last_row}
use Rattle.writing.proofs.Names.{last_other, raised, Step, done, write, write_row, adds_up, raise_by, sum_ahead, one_page, after, Changes, Fits}
use Rattle.writing.proofs.NumberLaws.{Last, last-is, last-same, count_same, count-near, count_less, count-false, count-one}
use Rattle.writing.proofs.RowLaws.{row-length, over-length, over-in, over-out, row-byte, alike, differs-not, differs-same}
use Rattle.writing.proofs.PageLaws.{raised-length, raised-other, raised_at, raised-sum, raised-bytes, written-bytes, whole_row, same_none, alike-length, row_below, row_room, check-below, none-differs, refit}

-- ---- two sums

adds-not : (s t d : ℕ) → adds_up s t d ≡ false → ((s + d) % 256 ≡ 0 → ⊥) × ((t + d) % 256 ≡ 0 → ⊥)
adds-not s t d e =
    let (a, b) = neither (eqb ((s + d) % 256) 0) (eqb ((t + d) % 256) 0) e in
    (eqb-false _ 0 a, eqb-false _ 0 b)

not-adds : (s t d : ℕ) → ((s + d) % 256 ≡ 0 → ⊥) → ((t + d) % 256 ≡ 0 → ⊥) → adds_up s t d ≡ false
not-adds s t d a b = rw (ne_eqb _ 0 a, ne_eqb _ 0 b)

adds_one : (s t d : ℕ) → adds_up s t d ≡ true → ((s + d) % 256 ≡ 0) ⊎ ((t + d) % 256 ≡ 0)
adds_one s t d e = go (eqb ((s + d) % 256) 0) refl (eqb ((t + d) % 256) 0) refl
  where
    go : (a : Bool) → eqb ((s + d) % 256) 0 ≡ a → (b : Bool) → eqb ((t + d) % 256) 0 ≡ b → ((s + d) % 256 ≡ 0) ⊎ ((t + d) % 256 ≡ 0)
    go true f b g = inl (eqb-true _ 0 f)
    go false f true g = inr (eqb-true _ 0 g)
    go false f false g = absurd (true≢false (sym e ∙ rw (f, g)))

raise-clear : (s t : ℕ) → adds_up s t (raise_by s t) ≡ false
raise-clear s t = go (adds_up s t 1) refl (adds_up s t 2) refl
  where
    three : ((s + 1) % 256 ≡ 0) ⊎ ((t + 1) % 256 ≡ 0) → ((s + 2) % 256 ≡ 0) ⊎ ((t + 2) % 256 ≡ 0) → adds_up s t 3 ≡ false
    three (inl a) (inl b) = absurd (omega arith)
    three (inl a) (inr b) = not-adds s t 3 (λ x. omega arith) (λ x. omega arith)
    three (inr a) (inl b) = not-adds s t 3 (λ x. omega arith) (λ x. omega arith)
    three (inr a) (inr b) = absurd (omega arith)

    go : (a : Bool) → adds_up s t 1 ≡ a → (b : Bool) → adds_up s t 2 ≡ b → adds_up s t (cond a (cond b 3 2) 1) ≡ false
    go false e b f = e
    go true e false f = f
    go true e true f = three (adds_one s t 1 e) (adds_one s t 2 f)

raise-some : (s t : ℕ) → (raise_by s t % 256 ≡ 0 → ⊥)
raise-some s t = go (adds_up s t 1) (adds_up s t 2)
  where
    go : (a b : Bool) → (cond a (cond b 3 2) 1 % 256 ≡ 0 → ⊥)
    go false b e = omega arith
    go true false e = omega arith
    go true true e = omega arith

-- ---- a step

-- The rows that differ, other than the check byte's.
pub others : Sizes → List ℕ → List ℕ → ℕ → Bool
others z p w r = differs p w r && not (eqb r (check_row z))

-- The most steps that are left.
pub one_page_left : Sizes → List ℕ → List ℕ → ℕ
one_page_left z w p = cond (ltb (differing z p w) 2) (differing z p w) (2 * count (others z p w) (rows z) + 1 + cond (adds_up (page_sum z p 0) (sum_ahead z p w) 0) 1 0)

module _ (z : Sizes) (p w : List ℕ) (fits : Fits z p w) where
  abbrev s : ℕ
  s = page_sum z p 0

  abbrev t : ℕ
  t = sum_ahead z p w

  pub by_cases : (P : Step → Type 0) → (differing z p w ≡ 0 → P done) → (differing z p w ≡ 1 → P (write_row w (last_row z p w)))
      → (2 ≤ differing z p w → adds_up s t 0 ≡ true → P (write_row (raised p z.register (raise_by s t)) (check_row z)))
      → (2 ≤ differing z p w → adds_up s t 0 ≡ false → P (write_row w (last_other z p w))) → P (one_page z p w)
  unfolding one_page
  by_cases P none one invalidate on = go (ℕ_discrete (differing z p w) 0) (ℕ_discrete (differing z p w) 1) (adds_up s t 0) refl
    where
      go : Dec (differing z p w ≡ 0) → Dec (differing z p w ≡ 1) → (b : Bool) → adds_up s t 0 ≡ b → P (one_page z p w)
      go (yes e) d b f = rw (eq-eqb (differing z p w) 0 e) (none e)
      go (no n) (yes e) b f = rw (ne_eqb (differing z p w) 0 n, eq-eqb (differing z p w) 1 e) (one e)
      go (no n) (no m) true f = rw (ne_eqb (differing z p w) 0 n, ne_eqb (differing z p w) 1 m, f) (invalidate (omega (arith, n, m)) f)
      go (no n) (no m) false f = rw (ne_eqb (differing z p w) 0 n, ne_eqb (differing z p w) 1 m, f) (on (omega (arith, n, m)) f)

  check-room : 8 * check_row z + 8 ≤ length p
  check-room = row_room z p w fits (check_row z) (check-below z p w fits)

  -- ---- one row

  module _ (e : differing z p w ≡ 1) where
    one-row : Last (differs p w) (rows z) (last_row z p w)
    one-row = last-is (differs p w) (rows z) (λ n. omega (arith, e, count-false (differs p w) (rows z) n))

    pub one-room : 8 * last_row z p w + 8 ≤ length p
    one-room = row_room z p w fits (last_row z p w) one-row.below

    one-done : written (last_row z p w) (row (last_row z p w) w) p ≡ w
    one-done =
        whole_row p w (last_row z p w) (alike-length z p w fits) one-room
        (λ i l n.
        sym
        (alike p w (i / 8)
        (count-one (differs p w) (rows z) (last_row z p w) one-row.below one-row.holds e (i / 8) (row_below z p w fits i (omega (arith, fits.held))) n) i refl))

  -- ---- the check byte raised

  module _ (d : ℕ) where
    abbrev invalid : List ℕ
    invalid = raised p z.register d

    invalid-row : (i : ℕ) → (i / 8 ≡ check_row z → ⊥) → get_or invalid i 0 ≡ get_or p i 0
    invalid-row i n = raised-other p z.register d i (λ e. n (ap (λ (x : ℕ). x / 8) e))

    invalid-done : written (check_row z) (row (check_row z) invalid) p ≡ invalid
    invalid-done = whole_row p invalid (check_row z) (raised-length p z.register d) check-room (λ i l. invalid-row i)

    invalid-others : (k : ℕ) → others z invalid w k ≡ others z p w k
    unfolding others
    invalid-others k = go (ℕ_discrete k (check_row z))
      where
        and-false : (b : Bool) → (b && false) ≡ false
        and-false true = refl
        and-false false = refl

        go : Dec (k ≡ check_row z) → others z invalid w k ≡ others z p w k
        go (yes e) = rw (eq-eqb k (check_row z) e) (and-false (differs invalid w k) ∙ sym (and-false (differs p w k)))
        go (no n) = rw (differs-same invalid p w k (λ i e. invalid-row i (λ f. n (sym e ∙ f))))

    invalid-last : last_other z invalid w ≡ last_other z p w
    unfolding others
    invalid-last = last-same (others z invalid w) (others z p w) (rows z) invalid-others

  -- ---- another row

  module _ (h : 2 ≤ differing z p w) where
    abbrev r : ℕ
    r = last_other z p w

    others-most : differing z p w ≤ count (others z p w) (rows z) + 1
    unfolding others
    others-most =
        count-near (differs p w) (others z p w) (check_row z) (rows z) (λ k n. rw (ne_eqb k (check_row z) n) (and-true (differs p w k))) (check-below z p w fits)
      where
        and-true : (b : Bool) → b ≡ (b && true)
        and-true true = refl
        and-true false = refl

    other_row : Last (others z p w) (rows z) r
    unfolding others
    other_row = last-is (others z p w) (rows z) (λ n. omega (arith, others-most, count-false (others z p w) (rows z) n))

    r-differs : differs p w r ≡ true
    unfolding others
    r-differs = (both (differs p w r) (not (eqb r (check_row z))) other_row.holds).0

    r-other : r ≡ check_row z → ⊥
    unfolding others
    r-other = eqb-false r (check_row z) (not-true _ (both (differs p w r) (not (eqb r (check_row z))) other_row.holds).1)

    pub r-room : 8 * r + 8 ≤ length p
    r-room = row_room z p w fits r other_row.below

    abbrev moved : List ℕ
    moved = written r (row r w) p

    moved_in : (i : ℕ) → i / 8 ≡ r → get_or moved i 0 ≡ get_or w i 0
    moved_in = over-in r w p (alike-length z p w fits) r-room

    moved_out : (i : ℕ) → (i / 8 ≡ r → ⊥) → get_or moved i 0 ≡ get_or p i 0
    moved_out = over-out r w p (alike-length z p w fits) r-room

    moved_length : length moved ≡ length p
    moved_length = over-length r w p (alike-length z p w fits) r-room

    moved-rows : count (others z moved w) (rows z) + 1 ≡ count (others z p w) (rows z)
    unfolding others
    moved-rows =
        count_less (others z moved w) (others z p w) r (rows z)
        (λ k n. ap (λ b. b && not (eqb k (check_row z))) (differs-same moved p w k (λ i d. moved_out i (λ f. n (sym d ∙ f))))) other_row.below
        (rw (differs-not moved w r moved_in)) other_row.holds

    moved-wrong : adds_up s t 0 ≡ false → page_sum z moved 0 ≡ 0 → ⊥
    unfolding sum_ahead
    moved-wrong e n = (adds-not s t 0 e).1 (omega arith)

    -- Raising the check byte raises the sum ahead as much.
    invalid-ahead : (d : ℕ) → sum_ahead z (invalid d) w ≡ (t + d) % 256
    unfolding sum_ahead
    invalid-ahead d =
        rw (invalid-last d) (ap (λ (l : List ℕ). page_sum z l 0) ahead ∙ raised-sum z moved (omega (arith, moved_length, fits.held, fits.paged)) d)
      where
        long : length w ≡ length (invalid d)
        long = alike-length z p w fits ∙ sym (raised-length p z.register d)

        room : 8 * r + 8 ≤ length (invalid d)
        room = omega (arith, r-room, raised-length p z.register d)

        at : (i : ℕ) → Dec (i / 8 ≡ r) → Dec (i ≡ z.register) → get_or (written r (row r w) (invalid d)) i 0 ≡ get_or (raised moved z.register d) i 0
        at i (yes e) c =
            over-in r w (invalid d) long room i e ∙ sym (moved_in i e) ∙ sym (raised-other moved z.register d i (λ f. r-other (sym e ∙ ap (λ (x : ℕ). x / 8) f)))
        at i (no n) (no m) = over-out r w (invalid d) long room i n ∙ raised-other p z.register d i m ∙ sym (moved_out i n) ∙ sym (raised-other moved z.register d i m)
        at i (no n) (yes c) =
            rw c
            (over-out r w (invalid d) long room z.register (λ f. r-other (sym f)) ∙ raised_at p z.register d (omega (arith, fits.held, fits.paged))
            ∙ ap (λ (x : ℕ). (x + d) % 256) (sym (moved_out z.register (λ f. r-other (sym f))))
            ∙ sym (raised_at moved z.register d (omega (arith, moved_length, fits.held, fits.paged))))

        ahead : written r (row r w) (invalid d) ≡ raised moved z.register d
        ahead =
            ext_get_or 0 _ _ (over-length r w (invalid d) long room ∙ raised-length p z.register d ∙ sym (raised-length moved z.register d ∙ moved_length))
            (λ i l. at i (ℕ_discrete (i / 8) r) (ℕ_discrete i z.register))

    invalid-sum : (d : ℕ) → page_sum z (invalid d) 0 ≡ (s + d) % 256
    invalid-sum d = raised-sum z p (omega (arith, fits.held, fits.paged)) d

    invalid-wrong : page_sum z (invalid (raise_by s t)) 0 ≡ 0 → ⊥
    invalid-wrong e = (adds-not s t (raise_by s t) (raise-clear s t)).0 (sym (invalid-sum (raise_by s t)) ∙ e)

    invalid-clear : adds_up (page_sum z (invalid (raise_by s t)) 0) (sum_ahead z (invalid (raise_by s t)) w) 0 ≡ false
    invalid-clear =
        let (a, b) = adds-not s t (raise_by s t) (raise-clear s t) in
        not-adds (page_sum z (invalid (raise_by s t)) 0) (sum_ahead z (invalid (raise_by s t)) w) 0
        (λ x. a (omega (arith, x, invalid-sum (raise_by s t)))) (λ x. b (omega (arith, x, invalid-ahead (raise_by s t))))

  -- ---- the result of a step

  pub one-page-safe : (after (one_page z p w) p ≡ w) ⊎ (page_sum z (after (one_page z p w) p) 0 ≡ 0 → ⊥)
  one-page-safe =
      by_cases (λ x. (after x p ≡ w) ⊎ (page_sum z (after x p) 0 ≡ 0 → ⊥)) (λ e. inl (none-differs z p w fits e)) (λ e. inl (one-done e))
      (λ h e. inr (rw (invalid-done (raise_by s t)) (invalid-wrong h))) (λ h e. inr (moved-wrong h e))

  pub one-page-long : length (after (one_page z p w) p) ≡ length p
  one-page-long =
      by_cases (λ x. length (after x p) ≡ length p) (λ e. refl) (λ e. over-length (last_row z p w) w p (alike-length z p w fits) (one-room e))
      (λ h e. over-length (check_row z) (invalid (raise_by s t)) p (raised-length p z.register (raise_by s t)) check-room) (λ h e. moved_length h)

  pub one-page-bytes : Bytes p → Bytes w → Bytes (after (one_page z p w) p)
  one-page-bytes bp bw =
      by_cases (λ x. Bytes (after x p)) (λ e. bp) (λ e. written-bytes (last_row z p w) w p (alike-length z p w fits) (one-room e) bw bp)
      (λ h e. written-bytes (check_row z) (invalid (raise_by s t)) p (raised-length p z.register (raise_by s t)) check-room (raised-bytes p z.register (raise_by s t) bp) bp)
      (λ h e. written-bytes (last_other z p w) w p (alike-length z p w fits) (r-room h) bw bp)

  -- ---- the steps left

  one-page-left-none : one_page_left z w p ≡ 0 → p ≡ w
  unfolding one_page_left
  one-page-left-none e = go (ltb (differing z p w) 2) e
    where
      go : (a : Bool) → cond a (differing z p w) (2 * count (others z p w) (rows z) + 1 + cond (adds_up s t 0) 1 0) ≡ 0 → p ≡ w
      go true d = none-differs z p w fits d
      go false d = absurd (omega arith)

  left-some : 2 ≤ differing z p w → one_page_left z w p ≡ 2 * count (others z p w) (rows z) + 1 + cond (adds_up s t 0) 1 0
  unfolding one_page_left
  left-some h = rw (le-ltb (differing z p w) 2 h)

  left-bound : one_page_left z w p ≤ 2 * count (others z p w) (rows z) + 1 + cond (adds_up s t 0) 1 0
  unfolding one_page_left
  left-bound = go (ltb (differing z p w) 2) refl
    where
      go : (a : Bool) → ltb (differing z p w) 2 ≡ a
          → cond a (differing z p w) (2 * count (others z p w) (rows z) + 1 + cond (adds_up s t 0) 1 0) ≤ 2 * count (others z p w) (rows z) + 1 + cond (adds_up s t 0) 1 0
      go true e = omega (arith, ltb-true (differing z p w) 2 e)
      go false e = omega arith

  pub one-page-left-most : one_page_left z w p ≤ 2 * differing z p w + 4
  unfolding others
  one-page-left-most =
      omega (
        arith,
        left-bound,
        count-near (others z p w) (differs p w) (check_row z) (rows z) (λ k n. rw (ne_eqb k (check_row z) n) (and-true (differs p w k))) (check-below z p w fits),
        bit (adds_up s t 0),
      )
    where
      and-true : (b : Bool) → (b && true) ≡ b
      and-true true = refl
      and-true false = refl

      bit : (b : Bool) → cond b 1 0 ≤ 1
      bit true = omega arith
      bit false = omega arith

left_there : (z : Sizes) (w : List ℕ) → one_page_left z w w ≡ 0
unfolding one_page_left
left_there z w = rw (same_none z w)

pub one-page-there : (z : Sizes) (w : List ℕ) → one_page z w w ≡ done
unfolding one_page
one-page-there z w = rw (same_none z w)

module _ (z : Sizes) (p w : List ℕ) (fits : Fits z p w) where
  pub one-page-nearer : one_page_left z w (after (one_page z p w) p) ≤ one_page_left z w p - 1
  one-page-nearer =
      by_cases z p w fits (λ x. one_page_left z w (after x p) ≤ one_page_left z w p - 1) (λ e. rw (none-differs z p w fits e) (rw (left_there z w) (omega arith)))
      (λ e. rw (one-done z p w fits e) (rw (left_there z w) (omega arith)))
      (λ h e. rw (invalid-done z p w fits (raise_by (s z p w fits) (t z p w fits))) (raise h e)) move
    where
      raise : 2 ≤ differing z p w → adds_up (s z p w fits) (t z p w fits) 0 ≡ true → one_page_left z w (raised p z.register (raise_by (s z p w fits) (t z p w fits))) ≤ one_page_left z w p - 1
      raise h e =
          let d : ℕ = raise_by (s z p w fits) (t z p w fits) in
          let q : List ℕ = raised p z.register d in
          let a : one_page_left z w q ≤ 2 * count (others z q w) (rows z) + 1 + cond (adds_up (page_sum z q 0) (sum_ahead z q w) 0) 1 0 =
          left-bound z q w (refit z p w fits q (raised-length p z.register d)) in
          let b : ◌≡◌ {A = ℕ} (cond (adds_up (page_sum z q 0) (sum_ahead z q w) 0) 1 0) 0 = ap (λ x. cond x 1 0) (invalid-clear z p w fits h) in
          let c : count (others z q w) (rows z) ≡ count (others z p w) (rows z) = count_same (others z q w) (others z p w) (rows z) (λ k l. invalid-others z p w fits d k) in
          let f : ◌≡◌ {A = ℕ} (cond (adds_up (s z p w fits) (t z p w fits) 0) 1 0) 1 = ap (λ x. cond x 1 0) e in
          omega (arith, left-some z p w fits h)

      bit : (b : Bool) → cond b 1 0 ≤ 1
      bit true = omega arith
      bit false = omega arith

      move : (h : 2 ≤ differing z p w) → adds_up (s z p w fits) (t z p w fits) 0 ≡ false → one_page_left z w (written (last_other z p w) (row (last_other z p w) w) p) ≤ one_page_left z w p - 1
      move h e =
          let q : List ℕ = written (last_other z p w) (row (last_other z p w) w) p in
          omega (
            arith,
            left-bound z q w (refit z p w fits q (moved_length z p w fits h)),
            bit (adds_up (page_sum z q 0) (sum_ahead z q w) 0),
            moved-rows z p w fits h,
            left-some z p w fits h,
          )

  pub one-page-none : one_page_left z w p ≡ 0 → p ≡ w
  one-page-none = one-page-left-none z p w fits

  pub one-page-done : one_page z p w ≡ done → p ≡ w
  one-page-done =
      by_cases z p w fits (λ x. x ≡ done → p ≡ w) (λ e d. none-differs z p w fits e) (λ e d. absurd (never d)) (λ h e d. absurd (never d)) (λ h e d. absurd (never d))
    where
      never : {r : ℕ} {bytes : List ℕ} → write r bytes ≡ done → ⊥
      never d = let x : ◌≡◌ {A = ℕ} 0 1 = cc in omega arith

  there : (q : ℕ) → q < rows z → differs p w q ≡ true → Changes z p (write_row w q)
  there q h d = (h, row-length q w p (alike-length z p w fits) (row_room z p w fits q h), λ e. true≢false (sym d ∙ differs-not p w q (row-byte p w q e)))

  pub one-page-changes : Changes z p (one_page z p w)
  one-page-changes =
      by_cases z p w fits (Changes z p) (λ e. tt) (λ e. there (last_row z p w) (one-row z p w fits e).below (one-row z p w fits e).holds)
      (λ h e. (
        check-below z p w fits,
        row-length (check_row z) (invalid z p w fits (raise_by (s z p w fits) (t z p w fits))) p (raised-length p z.register (raise_by (s z p w fits) (t z p w fits))) (check-room z p w fits),
        λ d.
            raise-some (s z p w fits) (t z p w fits)
            (omega (
              arith,
              row-byte p (invalid z p w fits (raise_by (s z p w fits) (t z p w fits))) (check_row z) d z.register refl,
              raised_at p z.register (raise_by (s z p w fits) (t z p w fits)) (omega (arith, fits.held, fits.paged)),
            )),
      ))
      (λ h e. there (last_other z p w) (other_row z p w fits h).below (r-differs z p w fits h))
