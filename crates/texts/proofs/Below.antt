-- A law of each number below n, from one test that antt computes.
use Rattle.texts.proofs.Names.{sym, subst, ⊎_elim, Bool, true, false, ◌&&◌, ℕ, zero, suc, ◌<◌, eq-or-lt_of_le, le_of_suc-le-suc, not-suc-le-zero, T}

abbrev pub below : (ℕ → Bool) → ℕ → Bool
below f zero = true
below f (suc n) = f n && below f n

pub first : (a b : Bool) → T (a && b) → T a
first true b t = tt
first false b t = t

pub second : (a b : Bool) → T (a && b) → T b
second true b t = t
second false b t = absurd t

pub at : (f : ℕ → Bool) (n : ℕ) → T (below f n) → (k : ℕ) → k < n → T (f k)
at f zero t k h = absurd (not-suc-le-zero h)
at f (suc n) t k h =
    ⊎_elim (λ e. subst (λ (m : ℕ). T (f m)) (sym e) (first (f n) (below f n) t))
    (λ l. at f n (second (f n) (below f n) t) k l) (eq-or-lt_of_le (le_of_suc-le-suc h))
