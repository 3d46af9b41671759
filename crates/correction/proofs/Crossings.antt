-- Laws of the computed crossing. There is a position at which the line is
-- p, and the crossing is the least whole number not below that position.
use Rattle.correction.proofs.Names.{◌≡◌, ap, List, [], ◌∷◌, ◌↔◌, ◌⊎◌, inl, inr, ℕ, ◌+◌, ◌*◌, ◌-◌, ◌≤◌, ◌<◌, mul-le-mul_right, mul-pos, le_of_mul-le-mul_right, arith, ℤ, pos, nat_abs, ◌+ℤ◌, ◌-ℤ◌, ◌*ℤ◌, ◌≤ℤ◌, ◌<ℤ◌}
use Rattle.correction.proofs.Names.{up, dn, Fraction, ◌over◌, same, add_parts, sub-parts-ℤ, le_z-parts, lt_z-parts, parts-≤ℤ, Pair, Correction, at_end, between, correction_after, correction, certificate_line}
use Rattle.correction.proofs.Names.{Neighbours, Rises, sum, SumsRise, Meets, Crossing, ceiling, crossing_held, crossing_between, crossing_after, crossing, Crosses, ceiling-meets, ceiling-least}
use Rattle.correction.proofs.Distances.{less, above-parts, scaled}
use Rattle.correction.proofs.Order.{Ahead, AtMost, Below, at_most, below, order, through, by_order, is-up-to, is-behind}
use Rattle.correction.proofs.Weights.{at, run, run-parts, run-some}
use Rattle.correction.proofs.Climb.{raised, raised-parts, climb, climb-parts, line-between, each_two, Climbs, Rising, rising}

-- A position x of P at which a line is p, and q is the least whole number from it on.
record Reached (p q : ℤ) (line : ℤ → ℕ → Correction) (P : Fraction → Type 0) : Type 0 where
  x : Fraction
  some : 0 < x.den
  there : P x
  level : Ahead (raised x (line x.num x.den)) (p over 1) 0
  least : (k : ℤ) → AtMost x (k over 1) ↔ q ≤ℤ k

-- A whole number is the least whole number from itself on.
whole-least : (q k : ℤ) → AtMost (q over 1) (k over 1) ↔ q ≤ℤ k
whole-least q k = (λ h. parts-≤ℤ q k (omega (arith, h.1.is)), λ h. at_most (q over 1) (k over 1) (omega (arith, le_z-parts q k h.le)))

module _ (p : ℤ) (a : Pair) where
  -- The crossing where one deviation holds.
  held-level : Ahead (raised (crossing_held p a over 1) (at_end 1 a)) (p over 1) 0
  held-level = omega (arith, raised-parts (crossing_held p a over 1) (at_end 1 a), scaled a.deviation 1, sub-parts-ℤ p a.deviation)

  held-behind : sum a <ℤ p → Below (at a) (crossing_held p a over 1)
  held-behind h = below (at a) (crossing_held p a over 1) (omega (arith, lt_z-parts (sum a) p h.lt, add_parts a.point a.deviation, sub-parts-ℤ p a.deviation))

  held-up-to : p ≤ℤ sum a → AtMost (crossing_held p a over 1) (at a)
  held-up-to h = at_most (crossing_held p a over 1) (at a) (omega (arith, le_z-parts p (sum a) h.le, add_parts a.point a.deviation, sub-parts-ℤ p a.deviation))

-- Between neighbours.
module _ (p : ℤ) (a b : Pair) (rises : a.point <ℤ b.point) (low : sum a <ℤ p) (high : p ≤ℤ sum b) where
  abbrev above : ℕ
  above = nat_abs (p -ℤ sum a)

  climbs : sum a ≤ℤ sum b
  climbs = parts-≤ℤ (sum a) (sum b) (omega (arith, lt_z-parts (sum a) p low.lt, le_z-parts p (sum b) high.le))

  above-is : up p + dn (sum a) ≡ dn p + up (sum a) + above
  above-is = above-parts (sum a) p (less (sum a) p low)

  above-some : 0 < above
  above-some = omega (arith, above-is, lt_z-parts (sum a) p low.lt)

  above_most : above ≤ climb a b
  above_most = omega (arith, above-is, climb-parts a b rises climbs, le_z-parts p (sum b) high.le)

  some : 0 < climb a b
  some = omega (arith, above-some, above_most)

  -- The position above × run / climb after the left point.
  abbrev x : Fraction
  x = a.point *ℤ pos (climb a b) +ℤ pos (above * run a b) over climb a b

  x-parts : up x.num + dn a.point * climb a b ≡ dn x.num + up a.point * climb a b + above * run a b
  x-parts = omega (arith, add_parts (a.point *ℤ pos (climb a b)) (pos (above * run a b)), scaled a.point (climb a b))

  left : Ahead (at a) x (above * run a b)
  left = omega (arith, x-parts)

  between-level : Ahead (raised x (between x.num x.den a b)) (p over 1) 0
  unfolding between
  between-level = omega (arith, line-between a b rises climbs left, ap (λ (k : ℕ). k * (climb a b * run a b)) above-is)

  between-up-to : AtMost x (at b)
  between-up-to = at_most x (at b) (omega (arith, x-parts, ap (λ (k : ℕ). k * climb a b) (run-parts a b rises), mul-le-mul_right (run a b) above_most))

  between-least : (k : ℤ) → AtMost x (k over 1) ↔ crossing_between p a b ≤ℤ k
  unfolding crossing_between
  between-least k = (λ h. to h, λ h. from h)
    where
      steps : ℕ
      steps = ceiling (above * run a b) (climb a b)

      q-parts : up (a.point +ℤ pos steps) + dn a.point ≡ dn (a.point +ℤ pos steps) + up a.point + steps
      q-parts = omega (arith, add_parts a.point (pos steps))

      -- The distance of k from the left point.
      u : ℕ
      u = up k + dn a.point - (up a.point + dn k)

      to : AtMost x (k over 1) → (a.point +ℤ pos steps) ≤ℤ k
      to (d, h) =
          let m : up a.point + dn k ≤ up k + dn a.point = le_of_mul-le-mul_right {k = climb a b} (omega (arith, h.is, x-parts)) some in
          let e : up k + dn a.point ≡ u + (up a.point + dn k) = omega arith in
          let few : steps ≤ u = ceiling-least (above * run a b) (climb a b) some u (omega (arith, h.is, x-parts, ap (λ (k : ℕ). k * climb a b) e)) in
          parts-≤ℤ (a.point +ℤ pos steps) k (omega (arith, q-parts))

      from : (a.point +ℤ pos steps) ≤ℤ k → AtMost x (k over 1)
      from h =
          let l = le_z-parts (a.point +ℤ pos steps) k h.le in
          let e : up k + dn a.point ≡ u + (up a.point + dn k) = omega (arith, q-parts) in
          let few : steps ≤ u = omega (arith, q-parts) in
          at_most x (k over 1) (omega (arith, x-parts, ap (λ (k : ℕ). k * climb a b) e, ceiling-meets (above * run a b) (climb a b) some, mul-le-mul_right (climb a b) few))

-- ---- along a table

module _ (p : ℤ) where
  after : (a : Pair) (pairs : List Pair) → Rises (a ∷ pairs) → SumsRise (a ∷ pairs) → sum a <ℤ p → Reached p (crossing_after p a pairs) (λ X F. correction_after X F a pairs) (Below (at a))
  unfolding correction_after crossing_after
  after a [] rises sums low = record { x = crossing_held p a over 1; some = omega arith; there = held-behind p a low; level = held-level p a; least = whole-least (crossing_held p a) }
  after a (b ∷ pairs) rises sums low =
      by_order p (sum b) (λ q. Reached p q (λ X F. correction_after X F a (b ∷ pairs)) (Below (at a)))
      (λ high.
      let k = x p a b rises.0 low high in
      record {
        x = k;
        some = some p a b rises.0 low high;
        there = ((above p a b rises.0 low high * run a b, left p a b rises.0 low high), mul-pos (above-some p a b rises.0 low high) (run-some a b rises.0));
        level = rw (is-up-to k b.point (between-up-to p a b rises.0 low high)) (between-level p a b rises.0 low high);
        least = between-least p a b rises.0 low high;
      })
      (λ past.
      let r = after b pairs rises.1 sums.1 past in
      let ((v, i), more) = r.there in
      record {
        x = r.x;
        some = r.some;
        there = ((v + run a b * r.x.den, omega (arith, i.is, ap (λ (k : ℕ). k * r.x.den) (run-parts a b rises.0))), omega arith);
        level = rw (is-behind r.x b.point r.there) r.level;
        least = r.least;
      })

  reached : (pairs : List Pair) → Rises pairs → SumsRise pairs → Reached p (crossing pairs p) (λ X F. correction X F pairs) (λ x. Unit {0})
  unfolding correction crossing
  reached [] rises sums = record { x = p over 1; some = omega arith; there = tt; level = omega (arith, raised-parts (p over 1) (record { num = pos 0; run = 1 })); least = whole-least p }
  reached (a ∷ pairs) rises sums =
      by_order p (sum a) (λ q. Reached p q (λ X F. correction X F (a ∷ pairs)) (λ x. Unit {0}))
      (λ high. record {
        x = crossing_held p a over 1;
        some = omega arith;
        there = tt;
        level = rw (is-up-to (crossing_held p a over 1) a.point (held-up-to p a high)) (held-level p a);
        least = whole-least (crossing_held p a);
      })
      (λ past.
      let r = after a pairs rises sums past in
      record { x = r.x; some = r.some; there = tt; level = rw (is-behind r.x a.point r.there) r.level; least = r.least })

-- ---- the crossing

-- The whole numbers that meet p are those from the crossing on, since the line rises.
meets-from : (pairs : List Pair) → Rises pairs → SumsRise pairs → (p k : ℤ) → Meets pairs p k ↔ crossing pairs p ≤ℤ k
unfolding certificate_line
meets-from pairs rises sums p k = (λ h. to (order x (k over 1)) (through (omega arith) reach (line-reaches h)), λ h. reaches-line (up_to ((r.least k).1 h)))
  where
    r : Reached p (crossing pairs p) (λ X F. correction X F pairs) (λ x. Unit {0})
    r = reached p pairs rises sums

    x : Fraction
    x = r.x

    -- The line at the crossing's position and at k.
    there : Fraction
    there = raised x (correction x.num x.den pairs)

    n : ℕ
    n = (correction k 1 pairs).run

    here : Fraction
    here = raised (k over 1) (correction k 1 pairs)

    climbs : Neighbours (Climbs (Unit {0})) pairs
    climbs = each_two (λ a b h. (less (sum a) (sum b) h, λ t. h)) pairs sums

    up_to : AtMost x (k over 1) → Rising (Unit {0}) x (correction x.num x.den pairs) (k over 1) (correction k 1 pairs)
    up_to = rising (Unit {0}) pairs rises climbs x (k over 1) r.some (omega arith)

    reach : AtMost there (p over 1)
    reach = (0, r.level)

    line-reaches : Meets pairs p k → AtMost (p over 1) here
    line-reaches h = at_most (p over 1) here (omega (arith, scaled p (1 * n), le_z-parts (p *ℤ pos (1 * n)) here.num h.le))

    to : AtMost x (k over 1) ⊎ AtMost (k over 1) x → AtMost there here → crossing pairs p ≤ℤ k
    to (inl h) l = (r.least k).0 h
    to (inr h) l = (r.least k).0 ((rising (Unit {0}) pairs rises climbs (k over 1) x (omega arith) r.some h).rises tt l)

    reaches-line : Rising (Unit {0}) x (correction x.num x.den pairs) (k over 1) (correction k 1 pairs) → Meets pairs p k
    reaches-line h =
        let l : AtMost (p over 1) here = through (mul-pos r.some h.first) (0, omega (arith, r.level.is)) h.never-falls in
        parts-≤ℤ (p *ℤ pos (1 * n)) here.num (omega (arith, scaled p (1 * n), l.1.is))

pub crosses : Crosses
crosses pairs rises sums p = record {
  is = is;
  one = λ q c. same q (crossing pairs p) (omega (arith, le_z-parts q (crossing pairs p) (c.least (crossing pairs p) is.meets).le, le_z-parts (crossing pairs p) q (is.least q c.meets).le));
  from = at_all;
}
  where
    at_all : (k : ℤ) → Meets pairs p k ↔ crossing pairs p ≤ℤ k
    at_all = meets-from pairs rises sums p

    is : Crossing pairs p (crossing pairs p)
    is = record { meets = (at_all (crossing pairs p)).1 (parts-≤ℤ (crossing pairs p) (crossing pairs p) (omega arith)); least = λ k. (at_all k).0 }
