-- Laws of the order of fractions, and of values that
-- depend on the test of a position against a point.
use Rattle.correction.proofs.Names.{◌≡◌, refl, ap, Bool, true, false, cond, ◌⊎◌, inl, inr, ℕ, ◌+◌, ◌*◌, ◌-◌, ◌≤◌, ◌<◌, dec_le, le_of_mul-le-mul_right, arith, ℤ, pos, ◌*ℤ◌, le_z, ◌≤ℤ◌, ◌<ℤ◌, up, dn, Fraction, ◌over◌}
use Rattle.correction.proofs.Names.{le_z-parts, nle_z-parts, lt_z-parts, parts-≤ℤ, parts-<ℤ, le-le_z, lt-le_z, is_true, is_false}
use Rattle.correction.proofs.Distances.{scaled}

-- y is d / (x.den × y.den) above x.
pub record Ahead (x y : Fraction) (d : ℕ) : Type 0 where
  pub is : up y.num * x.den + dn x.num * y.den ≡ dn y.num * x.den + up x.num * y.den + d

abbrev pub AtMost : Fraction → Fraction → Type 0
AtMost x y = (d : ℕ) × Ahead x y d

abbrev pub Below : Fraction → Fraction → Type 0
Below x y = (h : AtMost x y) × (0 < h.0)

module _ (x y : Fraction) where
  pub at_most : up x.num * y.den + dn y.num * x.den ≤ dn x.num * y.den + up y.num * x.den → AtMost x y
  at_most h = (dn x.num * y.den + up y.num * x.den - (up x.num * y.den + dn y.num * x.den), omega arith)

  pub below : up x.num * y.den + dn y.num * x.den < dn x.num * y.den + up y.num * x.den → Below x y
  below h = let m = at_most (omega arith) in (m, omega (arith, m.1.is))

pub order : (x y : Fraction) → AtMost x y ⊎ AtMost y x
order x y = go (dec_le (up x.num * y.den + dn y.num * x.den) (dn x.num * y.den + up y.num * x.den))
  where
    go : Dec (up x.num * y.den + dn y.num * x.den ≤ dn x.num * y.den + up y.num * x.den) → AtMost x y ⊎ AtMost y x
    go (yes h) = inl (at_most x y h)
    go (no h) = inr (at_most y x (omega arith))

pub through : {x y z : Fraction} → 0 < y.den → AtMost x y → AtMost y z → AtMost x z
through {x} {y} {z} some (d, l) (g, r) =
    at_most x z (le_of_mul-le-mul_right {k = y.den} (omega (arith, ap (λ (k : ℕ). k * z.den) l.is, ap (λ (k : ℕ). k * x.den) r.is)) some)

module _ (y z : ℤ) where
  pub at-most-whole : AtMost (y over 1) (z over 1) → y ≤ℤ z
  at-most-whole h = parts-≤ℤ y z (omega (arith, h.1.is))

  pub whole-at-most : y ≤ℤ z → AtMost (y over 1) (z over 1)
  whole-at-most h = at_most (y over 1) (z over 1) (omega (arith, le_z-parts y z h.le))

  pub whole_below : y <ℤ z → Below (y over 1) (z over 1)
  whole_below h = below (y over 1) (z over 1) (omega (arith, lt_z-parts y z h.lt))

-- A value that depends on the test of two whole numbers.
pub by_order : (y z : ℤ) {A : Type 0} (Q : A → Type 0) {c e : A} → (y ≤ℤ z → Q c) → (z <ℤ y → Q e) → Q (cond (le_z y z) c e)
by_order y z Q {c} {e} before past = go (le_z y z) refl
  where
    go : (t : Bool) → le_z y z ≡ t → Q (cond t c e)
    go true t = before (record { le = is_true t })
    go false t = past (parts-<ℤ z y (nle_z-parts y z (is_false t)))

-- A value that depends on the test of a position against b, and what decides the test.
module _ (x : Fraction) (b : ℤ) where
  pub by-test : {A : Type 0} (Q : A → Type 0) {c e : A} → (AtMost x (b over 1) → Q c) → (Below (b over 1) x → Q e) → Q (cond (le_z x.num (b *ℤ pos x.den)) c e)
  by-test Q before past =
      by_order x.num (b *ℤ pos x.den) Q
      (λ h. before (at_most x (b over 1) (omega (arith, le_z-parts x.num (b *ℤ pos x.den) h.le, scaled b x.den))))
      (λ h. past (below (b over 1) x (omega (arith, lt_z-parts (b *ℤ pos x.den) x.num h.lt, scaled b x.den))))

  pub is-up-to : AtMost x (b over 1) → le_z x.num (b *ℤ pos x.den) ≡ true
  is-up-to h = le-le_z x.num (b *ℤ pos x.den) (omega (arith, scaled b x.den))

  pub is-behind : Below (b over 1) x → le_z x.num (b *ℤ pos x.den) ≡ false
  is-behind h = lt-le_z x.num (b *ℤ pos x.den) (omega (arith, scaled b x.den))
