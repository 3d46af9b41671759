-- Laws of a step, by the number of pages.
use Rattle.writing.proofs.Names.{◌≡◌, refl, Bool, true, false, cond, List, ◌⊎◌, inl, inr, ℕ, ◌+◌, ◌-◌, ◌*◌, ◌≤◌, arith, ltb, length, ltb-false, le-ltb, Sizes, Bytes, page_sum, SumsRight, differing, done, one_page}
use Rattle.writing.proofs.Names.{several_pages, step, after, Changes, Torn, WantedOrRefused, Fits}
use Rattle.writing.proofs.PageLaws.{refused-by, refit}
use Rattle.writing.proofs.OnePageLaws.{one_page_left, one-page-safe, one-page-long, one-page-bytes, one-page-none, one-page-left-most, one-page-nearer, one-page-there, one-page-done, one-page-changes}
use Rattle.writing.proofs.SeveralLaws.{several_left, several-safe, several-whole, several-long, several-bytes, several-left-none, several-left-most, several-nearer, several-there, several-done, several-changes}

-- What the chip holds after a step.
abbrev pub next : Sizes → List ℕ → List ℕ → List ℕ
next z wanted present = after (step z present wanted) present

-- The most steps that are left.
pub left : Sizes → List ℕ → List ℕ → ℕ
left z w p = cond (ltb z.pages 2) (one_page_left z w p) (several_left z w p)

module _ (z : Sizes) (w : List ℕ) where
  by_pages : (P : Bool → Type 0) → (ltb z.pages 2 ≡ true → P true) → (2 ≤ z.pages → P false) → P (ltb z.pages 2)
  by_pages P one two = go (ltb z.pages 2) refl
    where
      go : (b : Bool) → ltb z.pages 2 ≡ b → P b
      go true e = one e
      go false e = two (ltb-false z.pages 2 e)

  pub there-done : step z w w ≡ done
  unfolding step
  there-done = by_pages (λ b. cond b (one_page z w w) (several_pages z w w) ≡ done) (λ e. one-page-there z w) (λ e. several-there z w)

module _ (z : Sizes) (p w : List ℕ) (fits : Fits z p w) where
  pub step-whole : SumsRight z w → WantedOrRefused z w (next z w p)
  unfolding step
  step-whole right = by_pages z w (λ b. WantedOrRefused z w (after (cond b (one_page z p w) (several_pages z p w)) p)) (λ e. go (one-page-safe z p w fits)) (λ two. several-whole z p w fits two right)
    where
      go : (after (one_page z p w) p ≡ w) ⊎ (page_sum z (after (one_page z p w) p) 0 ≡ 0 → ⊥) → WantedOrRefused z w (after (one_page z p w) p)
      go (inl e) = inl e
      go (inr n) = inr (refused-by z (after (one_page z p w) p) 0 fits.paged n)

  pub step-torn : 2 ≤ z.pages → (x : List ℕ) → Bytes p → Bytes w → SumsRight z w → Torn p (next z w p) x → (x ≡ p) ⊎ WantedOrRefused z w x
  unfolding step
  step-torn two = rw (le-ltb z.pages 2 two) (several-safe z p w fits two)

  pub step_fits : Fits z (next z w p) w
  unfolding step
  step_fits =
      refit z p w fits (next z w p)
      (by_pages z w (λ b. length (after (cond b (one_page z p w) (several_pages z p w)) p) ≡ length p) (λ e. one-page-long z p w fits) (λ two. several-long z p w fits two))

  pub step-bytes : Bytes p → Bytes w → Bytes (next z w p)
  unfolding step
  step-bytes bp bw =
      by_pages z w (λ b. Bytes (after (cond b (one_page z p w) (several_pages z p w)) p)) (λ e. one-page-bytes z p w fits bp bw) (λ two. several-bytes z p w fits two bp bw)

  pub left-none : left z w p ≡ 0 → p ≡ w
  unfolding left
  left-none = by_pages z w (λ b. cond b (one_page_left z w p) (several_left z w p) ≡ 0 → p ≡ w) (λ e. one-page-none z p w fits) (λ two. several-left-none z p w fits two)

  pub left-most : left z w p ≤ 2 * differing z p w + 4
  unfolding left
  left-most =
      by_pages z w (λ b. cond b (one_page_left z w p) (several_left z w p) ≤ 2 * differing z p w + 4) (λ e. one-page-left-most z p w fits)
      (λ two. omega (arith, several-left-most z p w fits two))

  pub left-two : 2 ≤ z.pages → left z w p ≤ differing z p w + 4
  unfolding left
  left-two two = rw (le-ltb z.pages 2 two) (several-left-most z p w fits two)

  pub step-nearer : left z w (next z w p) ≤ left z w p - 1
  unfolding step left
  step-nearer =
      by_pages z w (λ b. cond b (one_page_left z w (after (cond b (one_page z p w) (several_pages z p w)) p)) (several_left z w (after (cond b (one_page z p w) (several_pages z p w)) p)) ≤ cond b (one_page_left z w p) (several_left z w p) - 1)
      (λ e. one-page-nearer z p w fits) (λ two. several-nearer z p w fits two)

  pub done-there : step z p w ≡ done → p ≡ w
  unfolding step
  done-there = by_pages z w (λ b. cond b (one_page z p w) (several_pages z p w) ≡ done → p ≡ w) (λ e. one-page-done z p w fits) (λ two. several-done z p w fits two)

  pub step-changes : Changes z p (step z p w)
  unfolding step
  step-changes = by_pages z w (λ b. Changes z p (cond b (one_page z p w) (several_pages z p w))) (λ e. one-page-changes z p w fits) (λ two. several-changes z p w fits two)
