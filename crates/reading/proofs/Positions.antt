-- Laws of the position of an input in the span, and of row 14.
use Rattle.reading.proofs.Names.{◌≡◌, false, ◌||◌, ◌+◌, ◌^◌, ◌≤◌, ◌<◌, mul-le-mul_right, arith, ℤ, pos, neg_ℤ, nat_abs}
use Rattle.reading.proofs.Names.{◌-ℤ◌, ◌*ℤ◌, lt_z, ◌≤ℤ◌, ◌<ℤ◌, up, dn, ◌over◌, sub-parts-ℤ, up_neg, dn-neg, mul-parts, le_z-parts, lt_z-parts, nlt_z-parts, is_false}
use Rattle.reading.proofs.Names.{neither, billion, less, above-parts, scaled, nearest-small, at_most, nearest-at-most, Span, too_far, position, Ready}

-- An input from −2,000,000,000 to 2,000,000,000.
pub record Inside (v : ℤ) : Type 0 where
  pub low : lt_z v (neg_ℤ (pos 2_000_000_000)) ≡ false
  pub high : lt_z (pos 2_000_000_000) v ≡ false

-- An input that is not too far: it passed the four tests, and its position is small.
module _ (v e f : ℤ) (h : too_far v e f ≡ false) where
  abbrev Passed : Type 0
  Passed = Inside v × (lt_z (pos 10 *ℤ (v -ℤ e)) (neg_ℤ (f -ℤ e)) ≡ false) × (lt_z (pos 11 *ℤ (f -ℤ e)) (pos 10 *ℤ (v -ℤ e)) ≡ false)

  not-far : Passed
  not-far =
      let below = lt_z v (neg_ℤ (pos 2_000_000_000)) in
      let above = lt_z (pos 2_000_000_000) v in
      let low = lt_z (pos 10 *ℤ (v -ℤ e)) (neg_ℤ (f -ℤ e)) in
      let c = neither (below || above || low) (lt_z (pos 11 *ℤ (f -ℤ e)) (pos 10 *ℤ (v -ℤ e))) h in
      let b = neither (below || above) low c.0 in
      let a = neither below above b.0 in
      (record { low = a.0; high = a.1 }, b.1, c.1)

pub position-small : (v : ℤ) {s : Span} → Ready s → too_far v s.least s.greatest ≡ false → nat_abs (position v s.least s.greatest) ≤ 2 ^ 31
unfolding position
position-small v {s} r h =
    let e = s.least in
    let f = s.greatest in
    let whole = above-parts e f (less e f r.rises) in
    let n = not-far v e f h in
    nearest-small (2 ^ 31) ((v -ℤ e) *ℤ pos billion over nat_abs (f -ℤ e)) (omega (arith, whole, lt_z-parts e f r.rises.lt))
    (omega (
      arith,
      whole,
      sub-parts-ℤ f e,
      scaled (v -ℤ e) billion,
      mul-parts (pos 10) (v -ℤ e),
      mul-parts (pos 11) (f -ℤ e),
      up_neg (f -ℤ e),
      dn-neg (f -ℤ e),
      nlt_z-parts (pos 10 *ℤ (v -ℤ e)) (neg_ℤ (f -ℤ e)) (is_false n.1),
      nlt_z-parts (pos 11 *ℤ (f -ℤ e)) (pos 10 *ℤ (v -ℤ e)) (is_false n.2),
    ))

-- A greater input never has a smaller position.
pub position-rises : (e f : ℤ) → e <ℤ f → (v w : ℤ) → v ≤ℤ w → position v e f ≤ℤ position w e f
unfolding position
position-rises e f ends v w h =
    nearest-at-most ((v -ℤ e) *ℤ pos billion over nat_abs (f -ℤ e)) ((w -ℤ e) *ℤ pos billion over nat_abs (f -ℤ e)) some some
    (at_most ((v -ℤ e) *ℤ pos billion over nat_abs (f -ℤ e)) ((w -ℤ e) *ℤ pos billion over nat_abs (f -ℤ e)) (omega (arith, mul-le-mul_right (nat_abs (f -ℤ e)) higher)))
  where
    some : 0 < nat_abs (f -ℤ e)
    some = omega (arith, above-parts e f (less e f ends), lt_z-parts e f ends.lt)

    higher : up ((v -ℤ e) *ℤ pos billion) + dn ((w -ℤ e) *ℤ pos billion) ≤ up ((w -ℤ e) *ℤ pos billion) + dn ((v -ℤ e) *ℤ pos billion)
    higher = omega (arith, scaled (v -ℤ e) billion, scaled (w -ℤ e) billion, sub-parts-ℤ v e, sub-parts-ℤ w e, le_z-parts v w h.le)
