-- Laws of steepness: between any two positions the
-- correction changes by at most K / 1000 of their distance.
use Rattle.correction.proofs.Names.{◌≡◌, ap, List, ⊎_elim, ℕ, ◌+◌, ◌*◌, ◌≤◌, ◌<◌, mul-le-mul_left, mul-pos, arith, ℤ, nat_abs, up, dn, Fraction, abs-parts, Pair, Correction, between, correction, Rises, Slopes}
use Rattle.correction.proofs.Distances.{Near, near-as, near_times, Apart, apart-sym, apart-as, apart-through}
use Rattle.correction.proofs.Order.{Ahead, AtMost, order}
use Rattle.correction.proofs.Weights.{at, run, rise, between-parts}
use Rattle.correction.proofs.Bends.{value, Is, Piecewise, everywhere}

-- a / (F × r) and b / (G × r), which differ by z × d / (F × G × r).
spread : (K F G r d a a' b b' : ℕ) (z : ℤ) → a * G + b' * F + up z * d ≡ a' * G + b * F + dn z * d → 1000 * nat_abs z ≤ K * r → Near (1000 * (F * G) * (a * (G * r) + b' * (F * r))) (1000 * (F * G) * (a' * (G * r) + b * (F * r))) (K * d * (F * r * (G * r)))
spread K F G r d a a' b b' z e h =
    let near : Near (1000 * dn z) (1000 * up z) (K * r) = omega (arith, abs-parts z) in
    near-as (omega (arith, ap (λ (k : ℕ). 1000 * (F * G) * r * k) e)) (omega arith) (near_times (F * G * r * d) near)

module _ (K : ℕ) where
  abbrev Steep : Pair → Pair → Type 0
  Steep p r = 1000 * nat_abs (rise p r) ≤ K * run p r

  -- The corrections c at x and e at y.
  abbrev Steady : Fraction → Correction → Fraction → Correction → Type 0
  Steady x c y e = (d : ℕ) → Ahead x y d → Apart (K * d) (1000 * (x.den * y.den)) (value x c) (value y e)

  -- Two equal corrections.
  same-apart : {C n : ℕ} (x y : Fraction) (c e : Correction) (s : ℤ) → Is s x c → Is s y e → Apart C n (value x c) (value y e)
  same-apart x y c e s h i = apart-as (omega arith) (omega arith) (apart-through (omega arith) h.is (apart-sym i.is))

  steep : Piecewise Steep Steady
  unfolding between
  steep = record {
    level = λ x y c e s hx hy order h i d ahead. same-apart x y c e s h i;
    straight = λ p r rises slope x y hx hy (u, left) (v, left') order d ahead.
        let apart : v * x.den ≡ u * y.den + d = omega (arith, ap (λ (k : ℕ). k * y.den) left.is, ap (λ (k : ℕ). k * x.den) left'.is) in
        record {
          near =
              spread K x.den y.den (run p r) d _ _ _ _ (rise p r)
              (omega (
                arith,
                ap (λ (k : ℕ). k * y.den) (between-parts p r rises left),
                ap (λ (k : ℕ). k * x.den) (between-parts p r rises left'),
                ap (λ (k : ℕ). up (rise p r) * k) apart,
                ap (λ (k : ℕ). dn (rise p r) * k) apart,
              ))
              slope;
        };
    joined = λ x y b c c' e' e hx hy (w, to) (u, on) h i l r d ahead.
        let total : d ≡ w * y.den + u * x.den = omega (arith, ap (λ (k : ℕ). k * y.den) to.is, ap (λ (k : ℕ). k * x.den) on.is) in
        rw total
        (apart-as (omega (arith, mul-pos hx hy)) (omega arith)
        (apart-through (omega (arith, h.some)) (apart-as {E = K * w * y.den} {m = 1000 * (x.den * y.den)} (omega arith) (omega arith) (l w to))
        (apart-through (omega (arith, i.some)) (same-apart {C = 0} (at b) (at b) c' e' b.deviation h i)
        (apart-as {E = K * u * x.den} (omega arith) (omega arith) (r u on)))));
  }

  module _ (pairs : List Pair) (rises : Rises pairs) (slopes : Slopes K pairs) where
    abbrev pub value_at : Fraction → Fraction
    value_at x = value x (correction x.num x.den pairs)

    onward : (E n : ℕ) (x y : Fraction) → 0 < x.den → 0 < y.den → AtMost x y → Apart E n x y → Apart (K * E) (1000 * n) (value_at x) (value_at y)
    onward E n x y hx hy (d, ahead) near =
        let h : n * d ≤ E * (x.den * y.den) = omega (arith, near.near, ap (λ (k : ℕ). n * k) ahead.is) in
        apart-as (omega (arith, mul-pos hx hy)) (omega (arith, mul-le-mul_left (1000 * K) h))
        (everywhere Steep Steady steep pairs rises slopes x y hx hy (d, ahead) d ahead)

    pub steady : (E n : ℕ) (x y : Fraction) → 0 < x.den → 0 < y.den → Apart E n x y → Apart (K * E) (1000 * n) (value_at x) (value_at y)
    steady E n x y hx hy near = ⊎_elim (λ h. onward E n x y hx hy h near) (λ h. apart-sym (onward E n y x hy hx h (apart-sym near))) (order x y)
