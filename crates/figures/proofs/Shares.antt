-- Laws of the physical figure of any finite fraction x, in any format: least +
-- (greatest − least) × x. The ends and x are ±l, ±g and ±n units, of which K are 1.
use Rattle.figures.proofs.Names.{sym, subst, Bool, ◌⊎◌, inl, inr, ℕ, ◌+◌, ◌*◌, ◌^◌, ◌≤◌, ◌<◌, lt_of_le_of_lt, mul-le-mul_left, mul-le-mul_right, mul-pos, le_of_mul-le-mul_right, arith, pow_pos, pow_mono, Float}
use Rattle.figures.proofs.Names.{Format, prec, low, unlike, add, sub, mul, two, two-le_pos, HasValue, grid, overflow}
use Rattle.figures.proofs.Rounding.{Half, Near, rounded-near, rounded-most}
use Rattle.figures.proofs.Signed.{plus, minus}
use Rattle.figures.proofs.Operations.{round-value, mul-value, Sized, sized, add-units}
use Rattle.figures.proofs.Errors.{sum_near}
use Rattle.figures.proofs.ShareErrors.{Within, share-high, share-low}
use Rattle.figures.proofs.Chain.{differs, differs-close, differs-most, sum-most, size-most, Near-at}

-- Nothing overflows: the ends are at most W units, and x at most X.
pub record Wide (f : Format) (W X : ℕ) : Type 0 where
  pub ends : 4 * W < overflow f
  pub sum : 2 * (W + (8 * (W * X) + 1)) < overflow f

module _ (f : Format) where
  abbrev K : ℕ
  K = 2 ^ low f

  abbrev U : ℕ
  U = 2 ^ prec f

  some : 0 < K
  some = pow_pos (low f)

  digits : 0 < prec f
  digits = two-le_pos (prec f) (two f)

  abbrev product : ℕ → ℕ → ℕ
  product S n = grid f (S * n) (K * K)

  -- The product of S units and n units, rounded.
  product-within : (S n : ℕ) → Within U K (S * n) (product S n * K)
  product-within S n = record { near = go (rounded-near (prec f) digits (S * n * K) (K * K) (mul-pos some some)) }
    where
      M : ℕ
      M = product S n

      go : Half (S * n * K) (K * K) M ⊎ Near (prec f) (S * n * K) (K * K) M → ((M * K * 2 ≤ S * n * 2 + K) × (S * n * 2 ≤ M * K * 2 + K)) ⊎ ((M * K * U ≤ S * n * U + S * n) × (S * n * U ≤ M * K * U + S * n))
      go (inl h) = inl (le_of_mul-le-mul_right (omega (arith, h.high)) some, le_of_mul-le-mul_right (omega (arith, h.low)) some)
      go (inr h) = inr (le_of_mul-le-mul_right (omega (arith, h.high)) some, le_of_mul-le-mul_right (omega (arith, h.low)) some)

  product-most : (S n X : ℕ) → n ≤ X * K → product S n ≤ 2 * (S * X) + 1
  product-most S n X h =
      le_of_mul-le-mul_right {m = product S n} {n = 2 * (S * X) + 1} {k = K * K}
      (omega (arith, rounded-most (prec f) digits (S * n * K) (K * K) (mul-pos some some), mul-le-mul_right (2 * K) (mul-le-mul_left S h))) (mul-pos some some)

  module _ (L G x : Float) (s t z : Bool) (l g n W X : ℕ) (hl : HasValue L s l K) (hg : HasValue G t g K) (hx : HasValue x z n K)
      (d : Sized f (sub f G L) (plus t g + minus s l) (minus t g + plus s l) K) (wide : Wide f W X) (ll : l ≤ W) (lg : g ≤ W) (ln : n ≤ X * K) where
    abbrev S : ℕ
    S = differs f d.size

    abbrev M : ℕ
    M = product S n

    S-most : S ≤ 4 * W
    S-most = omega (arith, differs-most f d.size, size-most s t d.negative l g d.size d.parts)

    M-most : M ≤ 8 * (W * X) + 1
    M-most = omega (arith, product-most S n X ln, mul-le-mul_right X S-most)

    sub-value : HasValue (sub f G L) d.negative S K
    unfolding differs
    sub-value = subst (λ (v : Float). HasValue v d.negative (grid f d.size K) K) (sym d.is) (round-value f d.negative d.size K (lt_of_le_of_lt S-most wide.ends))

    move-value : HasValue (mul f (sub f G L) x) (unlike d.negative z) M K
    move-value =
        subst (λ (v : Float). HasValue v (unlike d.negative z) M K) (sym (mul-value f d.negative z S K n K some some (sub f G L) x sub-value hx))
        (round-value f (unlike d.negative z) (S * n) (K * K) (lt_of_le_of_lt (omega (arith, M-most)) wide.sum))

    r : Sized f (add f L (mul f (sub f G L) x)) (plus s l + plus (unlike d.negative z) M) (minus s l + minus (unlike d.negative z) M) K
    r = sized (add-units f s (unlike d.negative z) l M L (mul f (sub f G L) x) hl move-value)

    under : differs f r.size < overflow f
    under = lt_of_le_of_lt (omega (arith, differs-most f r.size, sum-most s (unlike d.negative z) r.negative l M r.size r.parts, M-most)) wide.sum

    -- The error is at most 2^−prec of l + 4 × σ × n / K, and a unit.
    pub share-near : Near-at f (add f L (mul f (sub f G L) x)) s (unlike d.negative z) l (d.size * n) (K * U) K
    unfolding differs
    share-near = record {
      negative = r.negative;
      size = grid f r.size K;
      value = subst (λ (v : Float). HasValue v r.negative (grid f r.size K) K) (sym r.is) (round-value f r.negative r.size K under);
      near =
          sum_near U K (K * U) l (d.size * n) M (differs f r.size) r.size
          (share-high U K (S * n) (d.size * n) (M * K) four high low (product-within S n)) (share-low U K (S * n) (d.size * n) (M * K) four high low (product-within S n))
          (differs-close f r.size).high (differs-close f r.size).low s (unlike d.negative z) r.negative r.parts;
    }
      where
        four : 4 ≤ U
        four = pow_mono (two f)

        high : S * n * U ≤ d.size * n * U + d.size * n
        high = omega (arith, mul-le-mul_right n (differs-close f d.size).high)

        low : d.size * n * U ≤ S * n * U + d.size * n
        low = omega (arith, mul-le-mul_right n (differs-close f d.size).low)
