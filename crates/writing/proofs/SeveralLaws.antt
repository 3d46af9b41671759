-- Laws of a step with several pages: what the chip holds
-- after it, torn or whole, and how many steps are left.
use Rattle.writing.proofs.Names.{◌≡◌, refl, sym, ap, ◌∙◌, Bool, true, false, not, ◌&&◌, cond, true≢false, List, ◌⊎◌, inl, inr, ℕ, ◌+◌, ◌-◌, ◌*◌, ◌/◌, ◌%◌, ◌≤◌, ◌<◌, arith, ℕ_discrete, eqb, ltb, length, get_or}
use Rattle.writing.proofs.Names.{ext_get_or, ltb-true, ltb-false, lt-ltb, eqb-true, eqb-false, eq-eqb, ne_eqb, both, Sizes, Bytes, image_bytes, page_at, page_sum, SumsRight, row, rows, check_row, written, differs}
use Rattle.writing.proofs.Names.{differing, covered_rows, raised, Step, done, write, write_row, last_row, unsealed, invalidate_first, several_pages, after, Changes, Torn, Refuses, WantedOrRefused, Fits}
use Rattle.writing.proofs.NumberLaws.{Last, last-is, last-below, count-near, count_less, count-false}
use Rattle.writing.proofs.RowLaws.{row-length, over-length, over-in, over-out, row-byte, alike, differs-not, differs-same, differs-to, first-same}
use Rattle.writing.proofs.PageLaws.{But, first-told, second-told, second-same, refused-by, raised-length, raised-other, raised-differs, raised-sum, raised-bytes, written-bytes, but_same, whole_row, same_none}
use Rattle.writing.proofs.PageLaws.{alike-length, row_below, row_room, check-below, none-differs, not_yet}

-- ---- a row, torn

module _ (r : ℕ) (t p x : List ℕ) (e : length t ≡ length p) (h : 8 * r + 8 ≤ length p) (torn : Torn p (written r (row r t) p) x) where
  -- A byte of another row keeps its value, and so does one that is already right.
  torn-out : (i : ℕ) → (i / 8 ≡ r → ⊥) → get_or x i 0 ≡ get_or p i 0
  torn-out i n = torn.stays i (over-out r t p e h i n)

  torn-same : (i : ℕ) → get_or t i 0 ≡ get_or p i 0 → get_or x i 0 ≡ get_or p i 0
  torn-same i d = go (ℕ_discrete (i / 8) r)
    where
      go : Dec (i / 8 ≡ r) → get_or x i 0 ≡ get_or p i 0
      go (yes k) = torn.stays i (over-in r t p e h i k ∙ d)
      go (no k) = torn-out i k

-- If the row differs only at one offset, so does the image.
one-torn : (r at : ℕ) (t p x : List ℕ) → length t ≡ length p → 8 * r + 8 ≤ length p → But at t p → Torn p (written r (row r t) p) x → But at x p
one-torn r at t p x e h f torn i n = torn-same r t p x e h torn i (f i n)

-- ---- the unsealed image

module _ (z : Sizes) (w : List ℕ) where
  pub unsealed-length : length (unsealed z w) ≡ length w
  unfolding unsealed
  unsealed-length = raised-length w (page_at z 1) 1

  pub unsealed-other : But (page_at z 1) (unsealed z w) w
  unfolding unsealed
  unsealed-other = raised-other w (page_at z 1) 1

  module _ (room : z.register + 64 ≤ length w) where
    pub unsealed-differs : get_or (unsealed z w) (page_at z 1) 0 % 256 ≡ get_or w (page_at z 1) 0 % 256 → ⊥
    unfolding unsealed
    unsealed-differs = raised-differs w (page_at z 1) (omega arith)

    pub unsealed-wrong : page_sum z w 1 ≡ 0 → page_sum z (unsealed z w) 1 ≡ 0 → ⊥
    unsealed-wrong s n = unsealed-differs (second-told z (unsealed z w) w unsealed-length (omega (arith, unsealed-length)) unsealed-other n s)

-- The most steps that are left.
pub several_left : Sizes → List ℕ → List ℕ → ℕ
several_left z w p = cond (eqb (differing z p w) 0) 0 (1 + differing z p (unsealed z w) + cond (invalidate_first z p (unsealed z w)) 2 0)

-- If page 0 does not add up, it need not be made invalid first.
wrong-ready : (z : Sizes) (p t : List ℕ) → (page_sum z p 0 ≡ 0 → ⊥) → invalidate_first z p t ≡ false
unfolding invalidate_first
wrong-ready z p t n = rw (ne_eqb (page_sum z p 0) 0 n) (go (not (ltb (last_row z p t) (covered_rows z))))
  where
    go : (b : Bool) → (b && false) ≡ false
    go true = refl
    go false = refl

-- ---- a step

module _ (z : Sizes) (p w : List ℕ) (fits : Fits z p w) (two : 2 ≤ z.pages) where
  room : z.register + 64 ≤ length p
  room = omega (arith, fits.held)

  room' : z.register + 64 ≤ length w
  room' = omega (arith, fits.asked)

  pub target_fits : Fits z p (unsealed z w)
  target_fits = record { held = fits.held; asked = unsealed-length z w ∙ fits.asked; paged = fits.paged; few = fits.few; most = fits.most; whole = fits.whole }

  -- A step, by its cases.
  pub by_cases : (P : Step → Type 0) → (p ≡ w → P done) → ((p ≡ w → ⊥) → p ≡ unsealed z w → P (write_row w (covered_rows z)))
      → ((p ≡ w → ⊥) → (p ≡ unsealed z w → ⊥) → invalidate_first z p (unsealed z w) ≡ true → P (write_row (raised p z.register 1) (check_row z)))
      → ((p ≡ w → ⊥) → (p ≡ unsealed z w → ⊥) → invalidate_first z p (unsealed z w) ≡ false → P (write_row (unsealed z w) (last_row z p (unsealed z w)))) → P (several_pages z p w)
  unfolding several_pages
  by_cases P there last invalidate on = go (ℕ_discrete (differing z p w) 0) (ℕ_discrete (differing z p (unsealed z w)) 0) (invalidate_first z p (unsealed z w)) refl
    where
      go : Dec (differing z p w ≡ 0) → Dec (differing z p (unsealed z w) ≡ 0) → (b : Bool) → invalidate_first z p (unsealed z w) ≡ b → P (several_pages z p w)
      go (yes e) d b f = rw (eq-eqb (differing z p w) 0 e) (there (none-differs z p w fits e))
      go (no n) (yes e) b f =
          rw (ne_eqb (differing z p w) 0 n, eq-eqb (differing z p (unsealed z w)) 0 e) (last (not_yet z p w fits n) (none-differs z p (unsealed z w) target_fits e))
      go (no n) (no m) true f =
          rw (ne_eqb (differing z p w) 0 n, ne_eqb (differing z p (unsealed z w)) 0 m, f) (invalidate (not_yet z p w fits n) (not_yet z p (unsealed z w) target_fits m) f)
      go (no n) (no m) false f =
          rw (ne_eqb (differing z p w) 0 n, ne_eqb (differing z p (unsealed z w)) 0 m, f) (on (not_yet z p w fits n) (not_yet z p (unsealed z w) target_fits m) f)

  guard-room : 8 * covered_rows z + 8 ≤ length p
  guard-room = omega (arith, fits.held, fits.whole)

  check-room : 8 * check_row z + 8 ≤ length p
  check-room = omega (arith, fits.held, fits.whole)

  target-length : length (unsealed z w) ≡ length p
  target-length = unsealed-length z w ∙ alike-length z p w fits

  invalidate-sum : invalidate_first z p (unsealed z w) ≡ true → page_sum z p 0 ≡ 0
  unfolding invalidate_first
  invalidate-sum e = eqb-true (page_sum z p 0) 0 (both (not (ltb (last_row z p (unsealed z w)) (covered_rows z))) (eqb (page_sum z p 0) 0) e).1

  -- The next row.
  module _ (n : p ≡ unsealed z w → ⊥) where
    abbrev r : ℕ
    r = last_row z p (unsealed z w)

    next_row_lem : Last (differs p (unsealed z w)) (rows z) r
    next_row_lem =
        last-is (differs p (unsealed z w)) (rows z) (λ none. n (none-differs z p (unsealed z w) target_fits (count-false (differs p (unsealed z w)) (rows z) none)))

    r-room : 8 * r + 8 ≤ length p
    r-room = row_room z p w fits r next_row_lem.below

    -- What is after the row is already right.
    behind : (i : ℕ) → i < image_bytes z → r < i / 8 → get_or p i 0 ≡ get_or (unsealed z w) i 0
    behind i l h = alike p (unsealed z w) (i / 8) (next_row_lem.behind (i / 8) h (row_below z p w fits i l)) i refl

    -- If page 0 need not be made invalid, the row is in page 0, or page 0 does not add up.
    pub ready : invalidate_first z p (unsealed z w) ≡ false → (r < covered_rows z) ⊎ ((covered_rows z ≤ r) × (page_sum z p 0 ≡ 0 → ⊥))
    unfolding invalidate_first
    ready e = go (ltb r (covered_rows z)) refl (eqb (page_sum z p 0) 0) refl
      where
        go : (a : Bool) → ltb r (covered_rows z) ≡ a → (b : Bool) → eqb (page_sum z p 0) 0 ≡ b → (r < covered_rows z) ⊎ ((covered_rows z ≤ r) × (page_sum z p 0 ≡ 0 → ⊥))
        go true d b f = inl (ltb-true r (covered_rows z) d)
        go false d false f = inr (ltb-false r (covered_rows z) d, eqb-false (page_sum z p 0) 0 f)
        go false d true f = absurd (true≢false (sym (rw (d, f)) ∙ e))

    -- In an image with the other rows unchanged, page 0 is unchanged, or all after it is as wanted.
    module _ (x : List ℕ) (long : length x ≡ length p) (out : (i : ℕ) → (i / 8 ≡ r → ⊥) → get_or x i 0 ≡ get_or p i 0) where
      pub kept : covered_rows z ≤ r → page_sum z x 0 ≡ page_sum z p 0
      kept h = first-same z x p long (λ i l. out i (λ e. omega (arith, fits.whole)))

      pub reached : r < covered_rows z → (i : ℕ) → i < image_bytes z → covered_rows z ≤ i / 8 → get_or x i 0 ≡ get_or (unsealed z w) i 0
      reached h i l k = out i (λ e. omega arith) ∙ behind i l (omega arith)

  on-refused : SumsRight z w → (n : p ≡ unsealed z w → ⊥) → invalidate_first z p (unsealed z w) ≡ false → (x : List ℕ) → length x ≡ length p
      → ((i : ℕ) → (i / 8 ≡ r n → ⊥) → get_or x i 0 ≡ get_or p i 0) → Refuses z x
  on-refused right n e x long out = go (ready n e)
    where
      go : (r n < covered_rows z) ⊎ ((covered_rows z ≤ r n) × (page_sum z p 0 ≡ 0 → ⊥)) → Refuses z x
      go (inr (h, s)) = refused-by z x 0 (omega arith) (λ t. s (sym (kept n x long out h) ∙ t))
      go (inl h) =
          refused-by z x 1 (omega arith)
          (λ t.
          unsealed-wrong z w room' (right 1 (omega arith))
          (sym (second-same z x (unsealed z w) (long ∙ sym target-length) (omega (arith, room, long))
          (λ i l k. reached n x long out h i (omega arith) (omega (arith, fits.whole)))) ∙ t))

  module _ (x : List ℕ) (bp : Bytes p) (bw : Bytes w) (right : SumsRight z w) where
    safe-last : p ≡ unsealed z w → Torn p (written (covered_rows z) (row (covered_rows z) w) p) x → (x ≡ p) ⊎ ((x ≡ w) ⊎ Refuses z x)
    safe-last e torn = go (ℕ_discrete (get_or x (page_at z 1) 0) (get_or w (page_at z 1) 0))
      where
        long : length x ≡ length w
        long = torn.long ∙ sym (alike-length z p w fits)

        from : But (page_at z 1) w p
        from i n = sym (unsealed-other z w i n) ∙ ap (λ (l : List ℕ). get_or l i 0) (sym e)

        but : But (page_at z 1) x w
        but i n = one-torn (covered_rows z) (page_at z 1) w p x (alike-length z p w fits) guard-room from torn i n ∙ sym (from i n)

        go : Dec (get_or x (page_at z 1) 0 ≡ get_or w (page_at z 1) 0) → (x ≡ p) ⊎ ((x ≡ w) ⊎ Refuses z x)
        go (yes d) = inr (inl (but_same x w (page_at z 1) long but d))
        go (no d) =
            inr
            (inr
            (refused-by z x 1 (omega arith)
            (λ s. d (omega (arith, second-told z x w long (omega (arith, room')) but s (right 1 (omega arith)), torn.bytes (page_at z 1), bw (page_at z 1))))))

    safe-invalid : page_sum z p 0 ≡ 0 → Torn p (written (check_row z) (row (check_row z) (raised p z.register 1)) p) x → (x ≡ p) ⊎ ((x ≡ w) ⊎ Refuses z x)
    safe-invalid s torn = go (ℕ_discrete (get_or x z.register 0) (get_or p z.register 0))
      where
        but : But z.register x p
        but = one-torn (check_row z) z.register (raised p z.register 1) p x (raised-length p z.register 1) check-room (raised-other p z.register 1) torn

        go : Dec (get_or x z.register 0 ≡ get_or p z.register 0) → (x ≡ p) ⊎ ((x ≡ w) ⊎ Refuses z x)
        go (yes d) = inl (but_same x p z.register torn.long but d)
        go (no d) =
            inr
            (inr
            (refused-by z x 0 (omega arith)
            (λ t. d (omega (arith, first-told z x p torn.long (omega (arith, room, torn.long)) but t s, torn.bytes z.register, bp z.register)))))

    -- A torn row leaves what was there, the wanted image, or a refused one.
    pub several-safe : Torn p (after (several_pages z p w) p) x → (x ≡ p) ⊎ ((x ≡ w) ⊎ Refuses z x)
    several-safe =
        by_cases (λ s. Torn p (after s p) x → (x ≡ p) ⊎ ((x ≡ w) ⊎ Refuses z x)) (λ e torn. inl (ext_get_or 0 x p torn.long (λ i h. torn.stays i refl)))
        (λ n e. safe-last e) (λ n m e. safe-invalid (invalidate-sum e)) (λ n m e torn. inr (inr (on-refused right m e x torn.long (torn-out (r m) (unsealed z w) p x target-length (r-room m) torn))))

  pub several-room : (differing z p (unsealed z w) ≡ 0 → ⊥) → 8 * last_row z p (unsealed z w) + 8 ≤ length p
  several-room n = r-room (not_yet z p (unsealed z w) target_fits n)

  -- ---- the result of a whole row

  last_done : p ≡ unsealed z w → written (covered_rows z) (row (covered_rows z) w) p ≡ w
  last_done e =
      whole_row p w (covered_rows z) (alike-length z p w fits) guard-room
      (λ i l n. sym (unsealed-other z w i (λ d. n (omega (arith, fits.whole)))) ∙ ap (λ (l : List ℕ). get_or l i 0) (sym e))

  abbrev invalid : List ℕ
  invalid = raised p z.register 1

  invalid-done : written (check_row z) (row (check_row z) invalid) p ≡ invalid
  invalid-done =
      whole_row p invalid (check_row z) (raised-length p z.register 1) check-room (λ i l n. raised-other p z.register 1 i (λ d. n (ap (λ (x : ℕ). x / 8) d)))

  invalid-wrong : page_sum z p 0 ≡ 0 → page_sum z invalid 0 ≡ 0 → ⊥
  invalid-wrong s t = omega (arith, raised-sum z p (omega (arith, room)) 1)

  pub several-long : length (after (several_pages z p w) p) ≡ length p
  several-long =
      by_cases (λ s. length (after s p) ≡ length p) (λ e. refl) (λ n e. over-length (covered_rows z) w p (alike-length z p w fits) guard-room)
      (λ n m e. over-length (check_row z) invalid p (raised-length p z.register 1) check-room) (λ n m e. over-length (r m) (unsealed z w) p target-length (r-room m))

  pub several-bytes : Bytes p → Bytes w → Bytes (after (several_pages z p w) p)
  unfolding unsealed
  several-bytes bp bw =
      by_cases (λ s. Bytes (after s p)) (λ e. bp) (λ n e. written-bytes (covered_rows z) w p (alike-length z p w fits) guard-room bw bp)
      (λ n m e. written-bytes (check_row z) invalid p (raised-length p z.register 1) check-room (raised-bytes p z.register 1 bp) bp)
      (λ n m e. written-bytes (r m) (unsealed z w) p target-length (r-room m) (raised-bytes w (page_at z 1) 1 bw) bp)

  -- ---- the number of rows that differ

  invalid-rows : differing z invalid (unsealed z w) ≤ differing z p (unsealed z w) + 1
  invalid-rows =
      count-near (differs invalid (unsealed z w)) (differs p (unsealed z w)) (check_row z) (rows z)
      (λ k n. differs-same invalid p (unsealed z w) k (λ i e. raised-other p z.register 1 i (λ d. n (sym e ∙ ap (λ (x : ℕ). x / 8) d)))) (check-below z p w fits)

  unsealed-rows : differing z p (unsealed z w) ≤ differing z p w + 1
  unsealed-rows =
      count-near (differs p (unsealed z w)) (differs p w) (covered_rows z) (rows z)
      (λ k n. differs-to p (unsealed z w) w k (λ i e. unsealed-other z w i (λ d. n (omega (arith, fits.whole))))) (omega (arith, fits.whole))

  module _ (n : p ≡ unsealed z w → ⊥) where
    abbrev moved : List ℕ
    moved = written (r n) (row (r n) (unsealed z w)) p

    moved_out : (i : ℕ) → (i / 8 ≡ r n → ⊥) → get_or moved i 0 ≡ get_or p i 0
    moved_out = over-out (r n) (unsealed z w) p target-length (r-room n)

    moved-rows : differing z moved (unsealed z w) + 1 ≡ differing z p (unsealed z w)
    moved-rows =
        count_less (differs moved (unsealed z w)) (differs p (unsealed z w)) (r n) (rows z)
        (λ k m. differs-same moved p (unsealed z w) k (λ i d. moved_out i (λ f. m (sym d ∙ f)))) (next_row_lem n).below
        (differs-not moved (unsealed z w) (r n) (over-in (r n) (unsealed z w) p target-length (r-room n))) (next_row_lem n).holds

    moved_ready : invalidate_first z p (unsealed z w) ≡ false → invalidate_first z moved (unsealed z w) ≡ false
    unfolding invalidate_first
    moved_ready e = go (ready n e)
      where
        long : length moved ≡ length p
        long = over-length (r n) (unsealed z w) p target-length (r-room n)

        go : (r n < covered_rows z) ⊎ ((covered_rows z ≤ r n) × (page_sum z p 0 ≡ 0 → ⊥)) → invalidate_first z moved (unsealed z w) ≡ false
        go (inr (h, s)) = wrong-ready z moved (unsealed z w) (λ t. s (sym (kept n moved long moved_out h) ∙ t))
        go (inl h) =
            rw
            (lt-ltb (last_row z moved (unsealed z w)) (covered_rows z)
            (last-below (differs moved (unsealed z w)) (rows z) (covered_rows z) (omega arith)
            (λ k l m. differs-not moved (unsealed z w) k (λ i d. reached n moved long moved_out h i (omega (arith, fits.whole)) (omega arith)))))

  -- ---- the steps left

  left-least : (p ≡ w → ⊥) → 1 + differing z p (unsealed z w) ≤ several_left z w p
  unfolding several_left
  left-least n = rw (ne_eqb (differing z p w) 0 (λ e. n (none-differs z p w fits e))) (omega arith)

  left-invalidating : (p ≡ w → ⊥) → invalidate_first z p (unsealed z w) ≡ true → several_left z w p ≡ 3 + differing z p (unsealed z w)
  unfolding several_left
  left-invalidating n e = rw (ne_eqb (differing z p w) 0 (λ e. n (none-differs z p w fits e)), e) (omega arith)

  pub several-left-none : several_left z w p ≡ 0 → p ≡ w
  unfolding several_left
  several-left-none e = go (ℕ_discrete (differing z p w) 0)
    where
      go : Dec (differing z p w ≡ 0) → p ≡ w
      go (yes d) = none-differs z p w fits d
      go (no d) = absurd (omega (arith, left-least (λ c. d (rw c (same_none z w))), e))

  pub several-left-most : several_left z w p ≤ differing z p w + 4
  unfolding several_left
  several-left-most = go (eqb (differing z p w) 0) (invalidate_first z p (unsealed z w))
    where
      go : (a b : Bool) → cond a 0 (1 + differing z p (unsealed z w) + cond b 2 0) ≤ differing z p w + 4
      go true b = omega arith
      go false true = omega (arith, unsealed-rows)
      go false false = omega (arith, unsealed-rows)

left_there : (z : Sizes) (w : List ℕ) → several_left z w w ≡ 0
unfolding several_left
left_there z w = rw (same_none z w)

left-ready : (z : Sizes) (w p : List ℕ) → invalidate_first z p (unsealed z w) ≡ false → several_left z w p ≤ 1 + differing z p (unsealed z w)
unfolding several_left
left-ready z w p e = rw e (go (eqb (differing z p w) 0))
  where
    go : (a : Bool) → cond a 0 (1 + differing z p (unsealed z w) + 0) ≤ 1 + differing z p (unsealed z w)
    go true = omega arith
    go false = omega arith

pub several-there : (z : Sizes) (w : List ℕ) → several_pages z w w ≡ done
unfolding several_pages
several-there z w = rw (same_none z w)

module _ (z : Sizes) (p w : List ℕ) (fits : Fits z p w) (two : 2 ≤ z.pages) where
  pub several-nearer : several_left z w (after (several_pages z p w) p) ≤ several_left z w p - 1
  several-nearer =
      by_cases z p w fits two (λ s. several_left z w (after s p) ≤ several_left z w p - 1) (λ e. rw e (rw (left_there z w) (omega arith)))
      (λ n e. rw (last_done z p w fits two e) (rw (left_there z w) (omega arith)))
      (λ n m e.
      rw (invalid-done z p w fits two)
      (omega (
        arith,
        left-ready z w (invalid z p w fits two) (wrong-ready z (invalid z p w fits two) (unsealed z w) (invalid-wrong z p w fits two (invalidate-sum z p w fits two e))),
        invalid-rows z p w fits two,
        left-invalidating z p w fits two n e,
      )))
      (λ n m e.
      omega (
        arith,
        left-ready z w (moved z p w fits two m) (moved_ready z p w fits two m e),
        moved-rows z p w fits two m,
        left-least z p w fits two n,
      ))

  pub several-done : several_pages z p w ≡ done → p ≡ w
  several-done = by_cases z p w fits two (λ s. s ≡ done → p ≡ w) (λ e d. e) (λ n e d. absurd (never d)) (λ n m e d. absurd (never d)) (λ n m e d. absurd (never d))
    where
      never : {r : ℕ} {bytes : List ℕ} → write r bytes ≡ done → ⊥
      never d = let x : ◌≡◌ {A = ℕ} 0 1 = cc in omega arith

  pub several-changes : Changes z p (several_pages z p w)
  several-changes =
      by_cases z p w fits two (Changes z p) (λ e. tt)
      (λ n e. (
        omega (arith, fits.whole),
        row-length (covered_rows z) w p (alike-length z p w fits) (guard-room z p w fits two),
        λ d.
            unsealed-differs z w (room' z p w fits two)
            (ap (λ (x : ℕ). x % 256) (ap (λ (l : List ℕ). get_or l (page_at z 1) 0) (sym e) ∙ row-byte p w (covered_rows z) d (page_at z 1) (omega (arith, fits.whole)))),
      ))
      (λ n m e. (
        check-below z p w fits,
        row-length (check_row z) (invalid z p w fits two) p (raised-length p z.register 1) (check-room z p w fits two),
        λ d. raised-differs p z.register (omega (arith, room z p w fits two)) (ap (λ (x : ℕ). x % 256) (sym (row-byte p (invalid z p w fits two) (check_row z) d z.register refl))),
      ))
      (λ n m e. (
        (next_row_lem z p w fits two m).below,
        row-length (r z p w fits two m) (unsealed z w) p (target-length z p w fits two) (r-room z p w fits two m),
        λ d. true≢false (sym (next_row_lem z p w fits two m).holds ∙ differs-not p (unsealed z w) (r z p w fits two m) (row-byte p (unsealed z w) (r z p w fits two m) d)),
      ))

  -- A whole row leaves the wanted image, or a refused one.
  pub several-whole : SumsRight z w → WantedOrRefused z w (after (several_pages z p w) p)
  several-whole right =
      by_cases z p w fits two (λ s. WantedOrRefused z w (after s p)) (λ e. inl e) (λ n e. inl (last_done z p w fits two e))
      (λ n m e.
      inr
      (rw (invalid-done z p w fits two) (refused-by z (invalid z p w fits two) 0 (omega arith) (invalid-wrong z p w fits two (invalidate-sum z p w fits two e)))))
      (λ n m e.
      inr
      (on-refused z p w fits two right m e (moved z p w fits two m) (over-length (r z p w fits two m) (unsealed z w) p (target-length z p w fits two) (r-room z p w fits two m))
      (moved_out z p w fits two m)))
