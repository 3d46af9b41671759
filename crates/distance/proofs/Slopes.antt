-- Laws of the loop over the slopes of a list.
use Rattle.distance.proofs.Names.{◌≡◌, refl, sym, ap, ◌∙◌, List, [], ◌∷◌, ℕ, max, ◌+◌, ◌*◌, ◌/◌, ◌^◌, ◌≤◌, ◌<◌, mul-le-mul_right, arith, ℤ, nat_abs, ◌-ℤ◌, length, drop, length-drop, Pair, pair_at, pairs-length}
use Rattle.distance.proofs.Names.{pairs_from, pairs-left, Neighbours, Slopes, least_slope, steepest, Step, Least, ceiling-meets, ceiling-least, ceiling-small}

-- ---- the pairs left

steepest-one : (pairs : List Pair) → length pairs ≤ 1 → steepest pairs ≡ 0
steepest-one [] h = refl
steepest-one (p ∷ []) h = refl
steepest-one (p ∷ r ∷ pairs) h = absurd (omega arith)

module _ (points : List ℤ) (i : ℕ) where
  pub slopes-end : length points / 2 ≤ i + 1 → steepest (pairs_from points i) ≡ 0
  slopes-end h = steepest-one (pairs_from points i) (omega (arith, pairs-length (drop (2 * i) points), length-drop (2 * i) points))

  module _ (h : i + 1 < length points / 2) where
    both : pairs_from points i ≡ pair_at points i ∷ pair_at points (i + 1) ∷ pairs_from points (i + 1 + 1)
    both = pairs-left points i (omega arith) ∙ ap (λ l. pair_at points i ∷ l) (pairs-left points (i + 1) h)

    behind : pairs_from points (i + 1) ≡ pair_at points (i + 1) ∷ pairs_from points (i + 1 + 1)
    behind = pairs-left points (i + 1) h

    pub step-at : Neighbours Step (pairs_from points i) → Step (pair_at points i) (pair_at points (i + 1)) × Neighbours Step (pairs_from points (i + 1))
    step-at n = let s = rw both at n in (s.0, rw behind s.1)

    pub slopes-next : steepest (pairs_from points i) ≡ max (least_slope (pair_at points i) (pair_at points (i + 1))) (steepest (pairs_from points (i + 1)))
    slopes-next = ap steepest both ∙ ap (λ l. max (least_slope (pair_at points i) (pair_at points (i + 1))) (steepest l)) (sym behind)

-- ---- the steepest is the least that meets them all

meets-more : (K L : ℕ) (pairs : List Pair) → K ≤ L → Slopes K pairs → Slopes L pairs
meets-more K L [] h s = tt
meets-more K L (p ∷ []) h s = tt
meets-more K L (p ∷ r ∷ pairs) h s = (omega (arith, s.0, mul-le-mul_right (nat_abs (r.point -ℤ p.point)) h), meets-more K L (r ∷ pairs) h s.1)

pub steepest-least : (pairs : List Pair) → Neighbours Step pairs → Least (steepest pairs) pairs
steepest-least [] n = record { meets = tt; least = λ k s. omega arith }
steepest-least (p ∷ []) n = record { meets = tt; least = λ k s. omega arith }
steepest-least (p ∷ r ∷ pairs) n =
    let num = 1000 * nat_abs (r.deviation -ℤ p.deviation) in
    let den = nat_abs (r.point -ℤ p.point) in
    let l = steepest-least (r ∷ pairs) n.1 in
    let one : least_slope p r ≤ steepest (p ∷ r ∷ pairs) = omega arith in
    let rest : steepest (r ∷ pairs) ≤ steepest (p ∷ r ∷ pairs) = omega arith in
    record {
      meets = (omega (arith, ceiling-meets num den n.0.some, mul-le-mul_right den one), meets-more (steepest (r ∷ pairs)) (steepest (p ∷ r ∷ pairs)) (r ∷ pairs) rest l.meets);
      least = λ k s. omega (arith, ceiling-least num den n.0.some k s.0, l.least k s.1);
    }

pub steepest-small : (pairs : List Pair) → Neighbours Step pairs → steepest pairs ≤ 2 ^ 43
steepest-small [] n = omega arith
steepest-small (p ∷ []) n = omega arith
steepest-small (p ∷ r ∷ pairs) n =
    omega (arith, ceiling-small (1000 * nat_abs (r.deviation -ℤ p.deviation)) (nat_abs (r.point -ℤ p.point)) n.0.some, n.0.rise, n.0.run, steepest-small (r ∷ pairs) n.1)
