-- Laws of the numbers below n for which a test holds.
use Rattle.writing.proofs.Names.{◌≡◌, refl, sym, ap, ◌∙◌, Bool, true, false, not, ◌&&◌, cond, true≢false, ◌⊎◌, inl, inr, ℕ, zero, suc, ◌+◌, ◌≤◌, ◌<◌, arith, ℕ_discrete, dec_lt, eqb, eq-eqb, ne_eqb, count, last}

abbrev pub Never : (ℕ → Bool) → ℕ → Type 0
Never test n = (k : ℕ) → k < n → test k ≡ false

pub record Last (test : ℕ → Bool) (n i : ℕ) : Type 0 where
  pub below : i < n
  pub holds : test i ≡ true
  pub behind : (k : ℕ) → i < k → k < n → test k ≡ false

-- A property below n that also holds at n holds below n + 1.
more : (P : ℕ → Type 0) (n k : ℕ) → P n → (k < n → P k) → k < suc n → P k
more P n k here before h = go (ℕ_discrete n k)
  where
    go : Dec (n ≡ k) → P k
    go (yes e) = rw e at here
    go (no e) = before (omega arith)

pub last_or : (test : ℕ → Bool) (n : ℕ) → Last test n (last test n) ⊎ Never test n
last_or test zero = inr (λ k h. absurd (omega arith))
last_or test (suc n) = go (test n) refl (last_or test n)
  where
    go : (b : Bool) → test n ≡ b → Last test n (last test n) ⊎ Never test n → Last test (suc n) (last test (suc n)) ⊎ Never test (suc n)
    go true e o = inl (rw e (record { below = omega arith; holds = e; behind = λ k h l. absurd (omega arith) }))
    go false e (inl o) =
        inl (rw e (record { below = omega (arith, o.below); holds = o.holds; behind = λ k h. more (λ i. test i ≡ false) n k e (o.behind k h) }))
    go false e (inr o) = inr (λ k. more (λ i. test i ≡ false) n k e (o k))

pub last-is : (test : ℕ → Bool) (n : ℕ) → (Never test n → ⊥) → Last test n (last test n)
last-is test n h = go (last_or test n)
  where
    go : Last test n (last test n) ⊎ Never test n → Last test n (last test n)
    go (inl o) = o
    go (inr o) = absurd (h o)

-- If the test holds for no number from k on, the last is below k.
pub last-below : (test : ℕ → Bool) (n k : ℕ) → 0 < k → ((i : ℕ) → k ≤ i → i < n → test i ≡ false) → last test n < k
last-below test zero k h f = h
last-below test (suc n) k h f = go (test n) refl (last-below test n k h (λ i l m. f i l (omega arith))) (dec_lt n k)
  where
    go : (b : Bool) → test n ≡ b → last test n < k → Dec (n < k) → last test (suc n) < k
    go false e ih d = rw e ih
    go true e ih (yes d) = rw e d
    go true e ih (no d) = absurd (true≢false (sym e ∙ f n (omega arith) (omega arith)))

pub last-same : (s t : ℕ → Bool) (n : ℕ) → ((k : ℕ) → s k ≡ t k) → last s n ≡ last t n
last-same s t zero f = refl
last-same s t (suc n) f = rw (f n, last-same s t n f)

-- ---- the count

pub count_same : (s t : ℕ → Bool) (n : ℕ) → ((k : ℕ) → k < n → s k ≡ t k) → count s n ≡ count t n
count_same s t zero f = refl
count_same s t (suc n) f = rw (f n (omega arith), count_same s t n (λ k h. f k (omega arith)))

-- Tests that agree except at r.
pub count-change : (s t : ℕ → Bool) (r n : ℕ) → ((k : ℕ) → (k ≡ r → ⊥) → s k ≡ t k) → r < n → count s n + cond (t r) 1 0 ≡ count t n + cond (s r) 1 0
count-change s t r zero f h = absurd (omega arith)
count-change s t r (suc n) f h = go (ℕ_discrete n r) (count-change s t r n f)
  where
    go : Dec (n ≡ r) → (r < n → count s n + cond (t r) 1 0 ≡ count t n + cond (s r) 1 0) → count s (suc n) + cond (t r) 1 0 ≡ count t (suc n) + cond (s r) 1 0
    go (yes e) ih = rw (e, count_same s t r (λ k l. f k (λ x. omega arith))) (omega arith)
    go (no e) ih = rw (f n e) (omega (arith, ih (omega arith)))

-- The counts differ by at most one, and by exactly one if only t holds at r.
pub count-near : (s t : ℕ → Bool) (r n : ℕ) → ((k : ℕ) → (k ≡ r → ⊥) → s k ≡ t k) → r < n → count s n ≤ count t n + 1
count-near s t r n f h = omega (arith, count-change s t r n f h, bit (s r))
  where
    bit : (b : Bool) → cond b 1 0 ≤ 1
    bit true = omega arith
    bit false = omega arith

pub count_less : (s t : ℕ → Bool) (r n : ℕ) → ((k : ℕ) → (k ≡ r → ⊥) → s k ≡ t k) → r < n → s r ≡ false → t r ≡ true → count s n + 1 ≡ count t n
count_less s t r n f h a b =
    let e : count s n + 1 ≡ count t n + 0 =
    ap (λ x. count s n + cond x 1 0) (sym b) ∙ count-change s t r n f h ∙ ap (λ x. count t n + cond x 1 0) a in
    omega arith

pub count-false : (test : ℕ → Bool) (n : ℕ) → Never test n → count test n ≡ 0
count-false test zero f = refl
count-false test (suc n) f = rw (f n (omega arith)) (omega (arith, count-false test n (λ k h. f k (omega arith))))

pub count_none : (test : ℕ → Bool) (n : ℕ) → count test n ≡ 0 → Never test n
count_none test zero e k h = absurd (omega arith)
count_none test (suc n) e k h = go (test n) refl (λ z. count_none test n z k)
  where
    go : (b : Bool) → test n ≡ b → (count test n ≡ 0 → k < n → test k ≡ false) → test k ≡ false
    go true d ih = let z : 1 + count test n ≡ 0 = sym (ap (λ b. cond b 1 0 + count test n) d) ∙ e in absurd (omega arith)
    go false d ih =
        let z : 0 + count test n ≡ 0 = sym (ap (λ b. cond b 1 0 + count test n) d) ∙ e in
        more (λ i. test i ≡ false) n k d (ih (omega arith)) h

-- The test without one number.
but : (ℕ → Bool) → ℕ → ℕ → Bool
but test i k = test k && not (eqb k i)

-- A test that holds once.
pub count-one : (test : ℕ → Bool) (n i : ℕ) → i < n → test i ≡ true → count test n ≡ 1 → (k : ℕ) → k < n → (k ≡ i → ⊥) → test k ≡ false
unfolding but
count-one test n i h e c k l d = sym (kept k d) ∙ count_none (but test i) n none k l
  where
    kept : (j : ℕ) → (j ≡ i → ⊥) → but test i j ≡ test j
    kept j d = rw (ne_eqb j i d) (and-true (test j))
      where
        and-true : (b : Bool) → (b && true) ≡ b
        and-true true = refl
        and-true false = refl

    gone : but test i i ≡ false
    gone = rw (e, eq-eqb i i refl)

    none : count (but test i) n ≡ 0
    none =
        let x : count (but test i) n + cond (test i) 1 0 ≡ count test n + cond (but test i i) 1 0 = count-change (but test i) test i n kept h in
        let y : count (but test i) n + 1 ≡ count test n + 0 = sym (ap (λ b. count (but test i) n + cond b 1 0) e) ∙ x ∙ ap (λ b. count test n + cond b 1 0) gone in
        omega arith
