-- Laws of a test of the numbers 0 to n that antt computes, and of what it shows for each.
use Rattle.codes.proofs.Names.{◌≡◌, Bool, ◌&&◌, ◌⊎◌, inl, inr, ℕ, zero, suc, ◌≤◌, ◌<◌, le_of_suc-le-suc, eq-or-lt_of_le, arith, T, and_yes}

abbrev pub each : (ℕ → Bool) → ℕ → Bool
each test zero = test zero
each test (suc n) = test (suc n) && each test n

pub at : (test : ℕ → Bool) (n k : ℕ) → T (each test n) → k ≤ n → T (test k)
at test zero k t h = let e : k ≡ 0 = omega arith in rw e t
at test (suc n) k t h = go (eq-or-lt_of_le h) (at test n k (and_yes (test (suc n)) (each test n) t).1)
  where
    go : (k ≡ suc n) ⊎ (k < suc n) → (k ≤ n → T (test k)) → T (test k)
    go (inl e) before = rw e (and_yes (test (suc n)) (each test n) t).0
    go (inr l) before = before (le_of_suc-le-suc l)
