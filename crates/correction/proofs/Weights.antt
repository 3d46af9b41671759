-- Laws of the straight line between neighbours: from the left
-- point on, and as a weighted mean of the two deviations.
use Rattle.correction.proofs.Names.{◌≡◌, ap, ℕ, ◌+◌, ◌*◌, ◌<◌, arith, ℤ, pos, nat_abs, ◌-ℤ◌, ◌*ℤ◌, ◌<ℤ◌, up, dn, Fraction, ◌over◌, add_parts, sub-parts-ℤ, lt_z-parts, Pair, between}
use Rattle.correction.proofs.Distances.{less, above-parts, multiple, scaled}
use Rattle.correction.proofs.Order.{Ahead}

-- The position of a pair's point.
abbrev pub at : Pair → Fraction
at p = p.point over 1

-- The run and the rise of neighbours.
abbrev pub run : Pair → Pair → ℕ
run p r = nat_abs (r.point -ℤ p.point)

abbrev pub rise : Pair → Pair → ℤ
rise p r = r.deviation -ℤ p.deviation

module _ (p r : Pair) (rises : p.point <ℤ r.point) where
  pub run-parts : up r.point + dn p.point ≡ dn r.point + up p.point + run p r
  run-parts = above-parts p.point r.point (less p.point r.point rises)

  pub run-some : 0 < run p r
  run-some = omega (arith, run-parts, lt_z-parts p.point r.point rises.lt)

  -- At u / F from the left point: s × (F × run) + (t − s) × u.
  module _ {x : Fraction} {u : ℕ} (left : Ahead (at p) x u) where
    pub between-parts : up (between x.num x.den p r).num + (dn p.deviation * (x.den * run p r) + dn (rise p r) * u) ≡ dn (between x.num x.den p r).num + (up p.deviation * (x.den * run p r) + up (rise p r) * u)
    unfolding between
    between-parts =
        omega (
          arith,
          add_parts (p.deviation *ℤ ((r.point -ℤ p.point) *ℤ pos x.den)) (rise p r *ℤ (x.num -ℤ p.point *ℤ pos x.den)),
          multiple p.deviation ((r.point -ℤ p.point) *ℤ pos x.den) (x.den * run p r) whole,
          multiple (rise p r) (x.num -ℤ p.point *ℤ pos x.den) u offset,
        )
      where
        whole : up ((r.point -ℤ p.point) *ℤ pos x.den) ≡ dn ((r.point -ℤ p.point) *ℤ pos x.den) + x.den * run p r
        whole = omega (arith, scaled (r.point -ℤ p.point) x.den, ap (λ (k : ℕ). x.den * k) run-parts, ap (λ (k : ℕ). x.den * k) (sub-parts-ℤ r.point p.point))

        offset : up (x.num -ℤ p.point *ℤ pos x.den) ≡ dn (x.num -ℤ p.point *ℤ pos x.den) + u
        offset = omega (arith, left.is, sub-parts-ℤ x.num (p.point *ℤ pos x.den), scaled p.point x.den)

    -- At w / F from the right point: s × w + t × u.
    module _ {w : ℕ} (right : Ahead x (at r) w) where
      pub weights-run : x.den * run p r ≡ u + w
      weights-run = omega (arith, left.is, right.is, ap (λ (k : ℕ). x.den * k) run-parts)

      pub weights-num : up (between x.num x.den p r).num + (dn p.deviation * w + dn r.deviation * u) ≡ dn (between x.num x.den p r).num + (up p.deviation * w + up r.deviation * u)
      weights-num =
          omega (
            arith,
            between-parts,
            ap (λ (k : ℕ). up p.deviation * k) weights-run,
            ap (λ (k : ℕ). dn p.deviation * k) weights-run,
            ap (λ (k : ℕ). k * u) (sub-parts-ℤ r.deviation p.deviation),
          )
