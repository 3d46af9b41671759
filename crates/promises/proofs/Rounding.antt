-- Laws of rounding to the nearest whole, halves upward.
use Rattle.promises.proofs.Names.{subst, List, [], ◌∷◌, ◌<◌, arith, ℤ, pos, ◌+ℤ◌, ◌-ℤ◌, ◌*ℤ◌, ◌<ℤ◌, Fraction, nearest, add_parts, sub-parts-ℤ, mul-parts, le_z-parts, lt_z-parts, parts-≤ℤ, parts-<ℤ, abs-parts, Low}
use Rattle.promises.proofs.Names.{High, nearest-low, nearest-high, nearest-is, Pair, Correction, between, correction_after, correction, deviation, Rises, run-some, by_order, position, HalvesUp, NearestHalvesUp}
use Rattle.promises.proofs.Names.{PositionHalvesUp, DeviationHalvesUp}

module _ (f : Fraction) (k : ℤ) where
  abbrev whole : ℤ
  whole = pos 2 *ℤ (k *ℤ pos f.den)

  halves-up : Low f k → High f k → HalvesUp f k
  halves-up l h = record {
    low = parts-≤ℤ (whole -ℤ pos f.den) (pos 2 *ℤ f.num)
        (omega (arith, sub-parts-ℤ whole (pos f.den), mul-parts (pos 2) (k *ℤ pos f.den), mul-parts k (pos f.den), mul-parts (pos 2) f.num));
    high = parts-<ℤ (pos 2 *ℤ f.num) (whole +ℤ pos f.den)
        (omega (arith, add_parts whole (pos f.den), mul-parts (pos 2) (k *ℤ pos f.den), mul-parts k (pos f.den), mul-parts (pos 2) f.num));
  }

  halves-low : HalvesUp f k → Low f k
  halves-low h =
      omega (arith, le_z-parts (whole -ℤ pos f.den) (pos 2 *ℤ f.num) h.low.le, sub-parts-ℤ whole (pos f.den), mul-parts (pos 2) (k *ℤ pos f.den), mul-parts k (pos f.den), mul-parts (pos 2) f.num)

  halves-high : HalvesUp f k → High f k
  halves-high h =
      omega (arith, lt_z-parts (pos 2 *ℤ f.num) (whole +ℤ pos f.den) h.high.lt, add_parts whole (pos f.den), mul-parts (pos 2) (k *ℤ pos f.den), mul-parts k (pos f.den), mul-parts (pos 2) f.num)

rounded : (f : Fraction) → 0 < f.den → HalvesUp f (nearest f)
rounded f some = halves-up f (nearest f) (nearest-low f some) (nearest-high f some)

pub nearest-halves-up : NearestHalvesUp
nearest-halves-up f k some = (λ e. subst (HalvesUp f) e (rounded f some), λ h. nearest-is f k (halves-low f k h) (halves-high f k h))

pub position-halves-up : PositionHalvesUp
unfolding position
position-halves-up v e f rises = rounded _ (omega (arith, abs-parts (f -ℤ e), sub-parts-ℤ f e, lt_z-parts e f rises.lt))

-- ---- the deviation

module _ (p : ℤ) where
  between-some : (a b : Pair) → a.point <ℤ b.point → 0 < (between p 1 a b).run
  unfolding between
  between-some a b rises = run-some a b rises

  after-some : (a : Pair) (pairs : List Pair) → Rises (a ∷ pairs) → 0 < (correction_after p 1 a pairs).run
  unfolding correction_after
  after-some a [] rises = omega arith
  after-some a (b ∷ pairs) rises =
      by_order p (b.point *ℤ pos 1) (λ (c : Correction). 0 < c.run) (λ h. between-some a b rises.0) (λ h. after-some b pairs rises.1)

  pub correction-some : (pairs : List Pair) → Rises pairs → 0 < (correction p 1 pairs).run
  unfolding correction
  correction-some [] rises = omega arith
  correction-some (a ∷ pairs) rises =
      by_order p (a.point *ℤ pos 1) (λ (c : Correction). 0 < c.run) (λ h. omega arith) (λ h. after-some a pairs rises)

pub deviation-halves-up : DeviationHalvesUp
unfolding deviation
deviation-halves-up pairs p rises = rounded _ (correction-some p pairs rises)
