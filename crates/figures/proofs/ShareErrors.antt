-- Laws of the rounding errors of a product with any fraction
-- and of the sum, over natural numbers alone. U is 2^prec.
use Rattle.figures.proofs.Names.{◌⊎◌, inl, inr, ℕ, ◌+◌, ◌*◌, ◌≤◌, mul-le-mul_right, le_of_mul-le-mul_right, arith}

-- X differs from P by at most half of K, or by 1 / U of P.
pub record Within (U K P X : ℕ) : Type 0 where
  pub near : ((X * 2 ≤ P * 2 + K) × (P * 2 ≤ X * 2 + K)) ⊎ ((X * U ≤ P * U + P) × (P * U ≤ X * U + P))

-- An error of 1 / U is at most a quarter.
quarter : (U a b : ℕ) → 4 ≤ U → a * U ≤ b * U + b → 4 * a ≤ 5 * b
quarter U a b h l = le_of_mul-le-mul_right {m = 4 * a} {n = 5 * b} {k = U} (omega (arith, mul-le-mul_right b h)) (omega arith)

module _ (U K P T X : ℕ) (four : 4 ≤ U) (high : P * U ≤ T * U + T) (low : T * U ≤ P * U + T) (w : Within U K P X) where
  small : 4 * P ≤ 5 * T
  small = quarter U P T four high

  units : K ≤ K * U
  units = omega (arith, mul-le-mul_right K four)

  pub share-high : X * U + X ≤ T * U + 4 * T + K * U
  share-high = go w.near
    where
      go : ((X * 2 ≤ P * 2 + K) × (P * 2 ≤ X * 2 + K)) ⊎ ((X * U ≤ P * U + P) × (P * U ≤ X * U + P)) → X * U + X ≤ T * U + 4 * T + K * U
      go (inl h) = omega (arith, h.0, mul-le-mul_right U h.0, small, units, high)
      go (inr h) = omega (arith, h.0, quarter U X P four h.0, small, high)

  pub share-low : T * U + X ≤ X * U + 4 * T + K * U
  share-low = go w.near
    where
      go : ((X * 2 ≤ P * 2 + K) × (P * 2 ≤ X * 2 + K)) ⊎ ((X * U ≤ P * U + P) × (P * U ≤ X * U + P)) → T * U + X ≤ X * U + 4 * T + K * U
      go (inl h) = omega (arith, h.0, mul-le-mul_right U h.1, small, units, low)
      go (inr h) = omega (arith, h.1, quarter U X P four h.0, small, low)
