-- Laws of sequences: a rising one passes a number once, and the first place after which one is above
-- a number is where it passes it. They serve the days before a year and before a month.
use Rattle.texts.proofs.Names.{◌≡◌, sym, subst, ⊎_elim, ℕ, zero, suc, ◌+◌, ◌<◌, ◌≤◌, add-one, le_refl, le_trans, eq-or-lt_of_le, le_of_suc-le-suc, arith, by_contra, Option, None, Some, MatchOption, unwrap_or}

module _ (f : ℕ → ℕ) (rises : (k : ℕ) → f k ≤ f (suc k)) where
  pub risen : (a b : ℕ) → a ≤ b → f a ≤ f b
  risen a zero h = subst (λ (k : ℕ). f k ≤ f zero) (omega arith) (le_refl (f zero))
  risen a (suc b) h =
      ⊎_elim (λ e. subst (λ (k : ℕ). f k ≤ f (suc b)) (sym e) (le_refl (f (suc b))))
      (λ l. le_trans (risen a b (le_of_suc-le-suc l)) (rises b)) (eq-or-lt_of_le h)

  not-past : (a b n : ℕ) → f b ≤ n → n < f (suc a) → b ≤ a
  not-past a b n low high = by_contra b a (λ l. let p : f (suc a) ≤ f b = risen (suc a) b l in omega arith)

  pub one_place : (a b n : ℕ) → f a ≤ n → n < f (suc a) → f b ≤ n → n < f (suc b) → a ≡ b
  one_place a b n la ha lb hb = omega (arith, not-past a b n lb ha, not-past b a n la hb)

module _ (f : ℕ → ℕ) (low n : ℕ) (begin : f low ≤ n) where
  abbrev Under : ℕ → Type 0
  Under i = (k : ℕ) → low ≤ k → k < i → f (k + 1) ≤ n

  reached : (i : ℕ) → low ≤ i → Under i → f i ≤ n
  reached zero h under = subst (λ (k : ℕ). f k ≤ n) (omega arith) begin
  reached (suc i) h under =
      ⊎_elim (λ e. subst (λ (k : ℕ). f k ≤ n) e begin)
      (λ l. rw add-one at (under i (le_of_suc-le-suc l) (le_refl (suc i)))) (eq-or-lt_of_le h)

  pub first_past : (last : ℕ) (r : Option ℕ) → low ≤ last → n < f (last + 1)
      → MatchOption r (Under last) (λ i. (low ≤ i) × (i < last) × (n < f (i + 1)) × Under i)
      → (low ≤ unwrap_or r last) × (unwrap_or r last ≤ last) × (f (unwrap_or r last) ≤ n) × (n < f (unwrap_or r last + 1))
  first_past last None h end under = (h, le_refl last, reached last h under, end)
  first_past last (Some i) h end p = (p.0, omega (arith, p.1), reached i p.0 p.3, p.2)
