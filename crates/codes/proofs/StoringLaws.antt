-- Laws of the code that a figure is stored at, for any table that rises.
use Rattle.codes.proofs.Names.{◌≡◌, refl, sym, ap, ◌∙◌, Bool, true, false, cond, ◌⊎◌, inl, inr, ℕ, zero, suc, ◌≤◌, ◌<◌, le_refl, le_trans, le_of_lt, le_of_suc-le-suc, le_antisymm, not-suc-le-zero, eq-or-lt_of_le}
use Rattle.codes.proofs.Names.{arith, lt-ltb, le-ltb, ltb-true, ltb-false, ltb, goes_up, stored_at, Rising, GeometricBetween, GeometricRises, GeometricOwn, GeometricByRatio, GeometricCovers}
use Rattle.codes.proofs.StoringRule.{up-later, up-lower, up_above, stay-below, up-ratio, stay-ratio}

-- Whether a figure goes up from code m to the next.
abbrev pub goes : (ℕ → ℕ) → ℕ → ℕ → Bool
goes value m w = goes_up (value m) (value (suc m)) w

pub inside : (value : ℕ → ℕ) (n w : ℕ) → stored_at value n w ≤ n
unfolding stored_at
inside value zero w = le_refl _
inside value (suc n) w = go (goes value n w) (inside value n w)
  where
    go : (t : Bool) → stored_at value n w ≤ n → cond t (suc n) (stored_at value n w) ≤ suc n
    go true h = le_refl _
    go false h = omega arith

-- The code depends only on the values of codes 0 to n.
pub stored_same : (f g : ℕ → ℕ) (n w : ℕ) → ((k : ℕ) → k ≤ n → f k ≡ g k) → stored_at f n w ≡ stored_at g n w
unfolding stored_at
stored_same f g zero w same = refl
stored_same f g (suc n) w same =
    rw (stored_same f g n w (λ k l. same k (omega arith)), same n (omega arith), same (suc n) (le_refl _))

-- A later code's value is no less.
pub no_less : (value : ℕ → ℕ) (n i j : ℕ) → Rising value n → i ≤ j → j ≤ n → value i ≤ value j
no_less value n i zero r h l = let e : i ≡ 0 = omega arith in rw e (le_refl _)
no_less value n i (suc j) r h l = go (eq-or-lt_of_le h) (λ k. no_less value n i j r k (omega arith))
  where
    go : (i ≡ suc j) ⊎ (i < suc j) → (i ≤ j → value i ≤ value j) → value i ≤ value (suc j)
    go (inl e) before = rw e (le_refl _)
    go (inr k) before = le_trans (before (le_of_suc-le-suc k)) (le_of_lt (r.rises j l))

-- A figure goes up from the codes before its own, and from no other.
pub goes_before : (value : ℕ → ℕ) (n m w : ℕ) → Rising value n → m < n → goes value m w ≡ ltb m (stored_at value n w)
unfolding stored_at
goes_before value zero m w r h = absurd (not-suc-le-zero h)
goes_before value (suc n) m w r h =
    go (goes value n w) refl (eq-or-lt_of_le (le_of_suc-le-suc h))
    (λ l. goes_before value n m w (record { positive = r.positive; rises = λ c k. r.rises c (omega arith) }) l)
  where
    go : (t : Bool) → goes value n w ≡ t → (m ≡ n) ⊎ (m < n) → (m < n → goes value m w ≡ ltb m (stored_at value n w)) → goes value m w ≡ ltb m (cond t (suc n) (stored_at value n w))
    go true e d before =
        let low = no_less value (suc n) m n r (le_of_suc-le-suc h) (omega arith) in
        let high = no_less value (suc n) (suc m) (suc n) r h (le_refl _) in
        up-lower _ _ _ _ w low high e ∙ sym (lt-ltb m (suc n) h)
    go false e (inl q) before = rw q (e ∙ sym (le-ltb _ _ (inside value n w)))
    go false e (inr l) before = before l

module _ (value : ℕ → ℕ) (n w : ℕ) (r : Rising value n) where
  pub reached : (m : ℕ) → m < n → goes value m w ≡ true → m < stored_at value n w
  reached m h e = ltb-true _ _ (sym (goes_before value n m w r h) ∙ e)

  pub not-reached : (m : ℕ) → m < n → goes value m w ≡ false → stored_at value n w ≤ m
  not-reached m h e = ltb-false _ _ (sym (goes_before value n m w r h) ∙ e)

  -- A figure is stored no earlier than a code whose value it
  -- reaches, and no later than one whose value it does not pass.
  at_least : (c : ℕ) → c ≤ n → value c ≤ w → c ≤ stored_at value n w
  at_least zero l h = omega arith
  at_least (suc m) l h = reached m l (up_above _ _ w (le_of_lt (r.rises m l)) h)

  at_most : (c : ℕ) → c ≤ n → w ≤ value c → stored_at value n w ≤ c
  at_most c l h = go (eq-or-lt_of_le l)
    where
      go : (c ≡ n) ⊎ (c < n) → stored_at value n w ≤ c
      go (inl e) = rw e (inside value n w)
      go (inr k) =
          let some : 0 < value c = omega (arith, r.positive, no_less value n 0 c r (omega arith) l) in
          not-reached c k (stay-below _ _ w some (r.rises c k) h)

-- A value that a code has is stored at that code.
pub own : GeometricOwn
own value n c r l =
    le_antisymm (at_most value n (value c) r c l (le_refl _)) (at_least value n (value c) r c l (le_refl _))

pub geometric-between : GeometricBetween
geometric-between value n c w r l h k = go (goes value c w) refl
  where
    go : (t : Bool) → goes value c w ≡ t → stored_at value n w ≡ cond t (suc c) c
    go true e = le_antisymm (at_most value n w r (suc c) l k) (reached value n w r c l e)
    go false e = le_antisymm (not-reached value n w r c l e) (at_least value n w r c (le_of_lt l) h)

pub geometric-rises : GeometricRises
geometric-rises value n v w r h = go (stored_at value n v) refl
  where
    go : (s : ℕ) → stored_at value n v ≡ s → s ≤ stored_at value n w
    go zero e = omega arith
    go (suc m) e =
        let l : m < n = omega (arith, inside value n v) in
        reached value n w r m l (up-later _ _ v w h (goes_before value n m v r l ∙ lt-ltb m (stored_at value n v) (omega arith)))

pub geometric-by-ratio : GeometricByRatio
geometric-by-ratio value n c w r l h k =
    let named = geometric-between value n c w r l h k in
    (λ up. named ∙ ap (λ (t : Bool). cond t (suc c) c) (up-ratio _ _ w up), λ stays. named ∙ ap (λ (t : Bool). cond t (suc c) c) (stay-ratio _ _ w stays))

pub geometric-covers : GeometricCovers
geometric-covers value zero w some low high = absurd (not-suc-le-zero some)
geometric-covers value (suc zero) w some low high = (0, (some, low, high))
geometric-covers value (suc (suc n)) w some low high = go (ltb (value (suc n)) w) refl (λ l. geometric-covers value (suc n) w (omega arith) low l)
  where
    go : (t : Bool) → ltb (value (suc n)) w ≡ t → (w ≤ value (suc n) → (c : ℕ) × ((c < suc n) × (value c ≤ w) × (w ≤ value (suc c)))) → (c : ℕ) × ((c < suc (suc n)) × (value c ≤ w) × (w ≤ value (suc c)))
    go true e before = (suc n, (le_refl _, le_of_lt (ltb-true _ _ e), high))
    go false e before = let p = before (ltb-false _ _ e) in (p.0, (omega (arith, p.1.0), p.1.1, p.1.2))
