-- Laws of demand 3: the distance for any steps D and R, any K, any two lists of pairs
-- and any position. Also for any two lists whose corrections are known to be near.
use Rattle.correction.proofs.Names.{◌≡◌, ap, List, ℕ, ◌+◌, ◌*◌, ◌≤◌, ◌<◌, mul-pos, arith, ℤ, pos, nat_abs, ◌+ℤ◌, ◌-ℤ◌, ◌*ℤ◌, up, dn, Fraction, ◌over◌, nearest, add_parts, sub-parts-ℤ, abs-parts, Pair, Correction}
use Rattle.correction.proofs.Names.{correction, deviation, certificate_line, Rises, Slopes, Close, Within, Agree, Conforms, WithinOf}
use Rattle.correction.proofs.Distances.{near-as, near-mean, near-abs, scaled, Apart, apart-sym, apart-as, apart-through, apart-nearest}
use Rattle.correction.proofs.Bends.{value, correction-some}
use Rattle.correction.proofs.Steepness.{steady}
use Rattle.correction.proofs.Shadow.{Shadow, Cast, cast}

-- p is near x, and v near the correction c at x: their sum against x + c.
summed : {C : ℕ} (p v : ℤ) (x : Fraction) (c : Correction) → Apart 1 2 (p over 1) x → Apart C 2000 (v over 1) (value x c) → 2000 * nat_abs ((p +ℤ v) *ℤ pos (x.den * c.run) -ℤ (x.num *ℤ pos c.run +ℤ c.num)) ≤ (1000 + C) * (x.den * c.run)
summed p v x c h g = near-abs 2000 off (near-as (omega (arith, parts, ap (λ (k : ℕ). k * (x.den * c.run)) (add_parts p v))) (omega arith) (near-mean (1000 * c.run) 1 h.near g.near))
  where
    off : ℤ
    off = (p +ℤ v) *ℤ pos (x.den * c.run) -ℤ (x.num *ℤ pos c.run +ℤ c.num)

    parts : up off + (dn (p +ℤ v) * (x.den * c.run) + (up x.num * c.run + up c.num)) ≡ dn off + (up (p +ℤ v) * (x.den * c.run) + (dn x.num * c.run + dn c.num))
    parts = omega (arith, sub-parts-ℤ ((p +ℤ v) *ℤ pos (x.den * c.run)) (x.num *ℤ pos c.run +ℤ c.num), add_parts (x.num *ℤ pos c.run) c.num, scaled (p +ℤ v) (x.den * c.run), scaled x.num c.run)

-- ---- two corrections at a whole position
module _ (M : ℕ) (x : ℤ) (c e : Correction) where
  off : ℤ
  off = c.num *ℤ pos e.run -ℤ e.num *ℤ pos c.run

  off-parts : up off + (dn c.num * e.run + up e.num * c.run) ≡ dn off + (up c.num * e.run + dn e.num * c.run)
  unfolding off
  off-parts = omega (arith, sub-parts-ℤ (c.num *ℤ pos e.run) (e.num *ℤ pos c.run), scaled c.num e.run, scaled e.num c.run)

  pub agree-apart : Agree M c e → Apart M 2000 (value (x over 1) c) (value (x over 1) e)
  unfolding off
  agree-apart h = omega (arith, off-parts, abs-parts off, h)

  pub apart-agree : Apart M 2000 (value (x over 1) c) (value (x over 1) e) → Agree M c e
  unfolding off
  apart-agree h = near-abs 2000 off (near-as (omega (arith, off-parts)) (omega arith) h.near)

-- If the corrections are within M / 2000, q = p + deviation is within 1 + (K + M) /
-- 2000 of the certificate line at X / F. Here p is the whole number nearest to X / F.
pub agreed-within : (M K : ℕ) (stored lent : List Pair) (X : ℤ) (F : ℕ) → 0 < F → Rises stored → Rises lent → Slopes K lent →
    let p = nearest (X over F) in
    Conforms M stored lent p → WithinOf M K (p +ℤ deviation stored p) (certificate_line lent X F)
unfolding deviation certificate_line
agreed-within M K stored lent X F some stored-rises rises slopes agreed = omega (arith, summed p (nearest s) (X over F) (correction X F lent) (apart-nearest (X over F) some) total)
  where
    p : ℤ
    p = nearest (X over F)

    s : Fraction
    s = (correction p 1 stored).num over (correction p 1 stored).run

    stored_some : 0 < (correction p 1 stored).run
    stored_some = correction-some (p over 1) stored stored-rises

    agree : Apart M 2000 s (value (p over 1) (correction p 1 lent))
    agree = omega (arith, (agree-apart M p (correction p 1 stored) (correction p 1 lent) agreed).near)

    total : Apart (1000 + (M + K * 1)) 2000 (nearest s over 1) (value (X over F) (correction X F lent))
    total =
        apart-through stored_some (apart-as (omega arith) (omega arith) (apart-nearest s stored_some))
        (apart-through (omega (arith, correction-some (p over 1) lent rises)) agree
        (steady K lent rises slopes 1 2 (p over 1) (X over F) (omega arith) some (apart-nearest (X over F) some)))

-- ---- points stored near the lent ones

module _ (D R K : ℕ) (lent stored : List Pair) (close : Close D R lent stored) (rises : Rises lent) (stored-rises : Rises stored) (slopes : Slopes K lent) where
  -- The corrections are nowhere further apart than this.
  pub close-conforms : (p : ℤ) → Conforms (1000 * R + K * D) stored lent p
  close-conforms p = apart-agree (1000 * R + K * D) p (correction p 1 stored) (correction p 1 lent) (omega (arith, total.near))
    where
      c : Cast D R p (correction p 1 stored) (λ X F. correction X F lent) (λ x. Unit {0})
      c = cast p lent stored rises stored-rises close

      h : Shadow D R p (correction p 1 stored) c.x (correction c.x.num c.x.den lent)
      h = c.shadow

      total : Apart (1000 * R + K * D) 2000 ((correction p 1 stored).num over (correction p 1 stored).run) (value (p over 1) (correction p 1 lent))
      total =
          apart-through (mul-pos h.some h.lent-run) (apart-as (omega arith) (omega arith) h.apart)
          (steady K lent rises slopes D 2 c.x (p over 1) h.some (omega arith) (apart-sym h.near))

  -- q = p + deviation is within the distance of the certificate line at X / F.
  pub bound : (X : ℤ) (F : ℕ) → 0 < F →
      let p = nearest (X over F) in
      Within D R K (p +ℤ deviation stored p) (certificate_line lent X F)
  bound X F some = omega (arith, agreed-within (1000 * R + K * D) K stored lent X F some stored-rises rises slopes (close-conforms (nearest (X over F))))
