-- Laws of a line that bends at its points: a property
-- of each straight piece holds for any two positions.
use Rattle.correction.proofs.Names.{ap, cond, List, [], ◌∷◌, ℕ, ◌*◌, ◌<◌, mul-pos, arith, ℤ, pos, ◌*ℤ◌, le_z, ◌<ℤ◌, Fraction, ◌over◌, Pair, Correction, at_end, between, correction_after, correction, Neighbours}
use Rattle.correction.proofs.Names.{Rises}
use Rattle.correction.proofs.Distances.{scaled, Apart}
use Rattle.correction.proofs.Order.{AtMost, by-test, is-up-to}
use Rattle.correction.proofs.Weights.{at, run, run-parts, run-some, between-parts, weights-num}

-- The correction c at x, as a fraction.
abbrev pub value : Fraction → Correction → Fraction
value x c = c.num over x.den * c.run

-- The correction is s.
pub record Is (s : ℤ) (x : Fraction) (c : Correction) : Type 0 where
  pub some : 0 < c.run
  pub is : Apart 0 1 (value x c) (s over 1)

pub is_none : (x : Fraction) → Is (pos 0) x (record { num = pos 0; run = 1 })
is_none x = omega arith

pub is_held : (p : Pair) (x : Fraction) → Is p.deviation x (at_end x.den p)
is_held p x = omega (arith, scaled p.deviation x.den)

-- The correction at a point is that point's deviation.
module _ (p r : Pair) (rises : p.point <ℤ r.point) where
  abbrev pub onward : AtMost (at p) (at r)
  onward = (run p r, omega (arith, run-parts p r rises))

  pub is-left : Is p.deviation (at p) (between p.point 1 p r)
  unfolding between
  is-left = omega (arith, run-some p r rises, between-parts p r rises {x = at p} {u = 0} (omega arith))

  pub is_right : Is r.deviation (at r) (between r.point 1 p r)
  unfolding between
  is_right = omega (arith, run-some p r rises, weights-num p r rises {x = at r} {u = run p r} onward.1 {w = 0} (omega arith))

pub is-start : (p : Pair) (pairs : List Pair) → Rises (p ∷ pairs) → Is p.deviation (at p) (correction_after p.point 1 p pairs)
unfolding correction_after
is-start p [] rises = is_held p (at p)
is-start p (r ∷ pairs) rises = rw (is-up-to (at p) r.point (onward p r rises.0)) (is-left p r rises.0)

-- A correction is a fraction.
module _ (x : Fraction) where
  after-some : (p : Pair) (pairs : List Pair) → Rises (p ∷ pairs) → 0 < (correction_after x.num x.den p pairs).run
  unfolding correction_after between
  after-some p [] rises = omega arith
  after-some p (r ∷ pairs) rises = by-test x r.point (λ (c : Correction). 0 < c.run) (λ h. run-some p r rises.0) (λ h. after-some r pairs rises.1)

  pub correction-some : (pairs : List Pair) → Rises pairs → 0 < (correction x.num x.den pairs).run
  unfolding correction
  correction-some [] rises = omega arith
  correction-some (p ∷ pairs) rises = by-test x p.point (λ (c : Correction). 0 < c.run) (λ h. (is_held p x).some) (λ h. after-some p pairs rises)

-- A property Q of two positions in order, and of the corrections there,
-- that holds for each straight piece if its neighbours satisfy S.
pub record Piecewise (S : Pair → Pair → Type 0) (Q : Fraction → Correction → Fraction → Correction → Type 0) : Type 0 where
  -- The property holds where the corrections are equal.
  pub level : (x y : Fraction) (c e : Correction) (s : ℤ) → 0 < x.den → 0 < y.den → AtMost x y → Is s x c → Is s y e → Q x c y e
  -- On the straight line through neighbours.
  pub straight : (p r : Pair) → p.point <ℤ r.point → S p r → (x y : Fraction) → 0 < x.den → 0 < y.den → AtMost (at p) x → AtMost (at p) y → AtMost x y → Q x (between x.num x.den p r) y (between y.num y.den p r)
  -- On both sides of a point, if it holds up to the point and from it on.
  pub joined : (x y : Fraction) (b : Pair) (c c' e' e : Correction) → 0 < x.den → 0 < y.den → AtMost x (at b) → AtMost (at b) y → Is b.deviation (at b) c' → Is b.deviation (at b) e' → Q x c (at b) c' → Q (at b) e' y e → Q x c y e

module _ (S : Pair → Pair → Type 0) (Q : Fraction → Correction → Fraction → Correction → Type 0) (holds : Piecewise S Q) where
  -- Any two positions of P.
  abbrev Along : (Fraction → Type 0) → (ℤ → ℕ → Correction) → Type 0
  Along P c = (x y : Fraction) → 0 < x.den → 0 < y.den → P x → P y → AtMost x y → Q x (c x.num x.den) y (c y.num y.den)

  -- A line that bends at b: c before it, e after it.
  bent : (P : Fraction → Type 0) (b : Pair) (c e : ℤ → ℕ → Correction) → P (at b) → Is b.deviation (at b) (c b.point 1) → Is b.deviation (at b) (e b.point 1) → Along P c → Along (AtMost (at b)) e → Along P (λ X F. cond (le_z X (b.point *ℤ pos F)) (c X F) (e X F))
  bent P b c e here ic ie before past x y hx hy px py order =
      by-test x b.point (λ i. Q x i y (cond (le_z y.num (b.point *ℤ pos y.den)) (c y.num y.den) (e y.num y.den)))
      (λ h. by-test y b.point (Q x (c x.num x.den) y)
      (λ i. before x y hx hy px py order)
      (λ i. holds.joined x y b _ _ _ _ hx hy h i.0 ic ie (before x (at b) hx (omega arith) px here h) (past (at b) y (omega arith) hy (0, omega arith) i.0 i.0)))
      (λ h. by-test y b.point (Q x (e x.num x.den) y)
      (λ i. absurd (omega (arith, order.1.is, ap (λ (k : ℕ). k * y.den) h.0.1.is, ap (λ (k : ℕ). k * x.den) i.1.is, mul-pos h.1 hy)))
      (λ i. past x y hx hy h.0 i.0 order))

  after : (p : Pair) (pairs : List Pair) → Rises (p ∷ pairs) → Neighbours S (p ∷ pairs) → Along (AtMost (at p)) (λ X F. correction_after X F p pairs)
  unfolding correction_after
  after p [] rises so = λ x y hx hy px py order. holds.level x y _ _ p.deviation hx hy order (is_held p x) (is_held p y)
  after p (r ∷ pairs) rises so =
      bent (AtMost (at p)) r (λ X F. between X F p r) (λ X F. correction_after X F r pairs)
      (onward p r rises.0) (is_right p r rises.0) (is-start r pairs rises.1) (holds.straight p r rises.0 so.0) (after r pairs rises.1 so.1)

  pub everywhere : (pairs : List Pair) → Rises pairs → Neighbours S pairs → (x y : Fraction) → 0 < x.den → 0 < y.den → AtMost x y → Q x (correction x.num x.den pairs) y (correction y.num y.den pairs)
  unfolding correction
  everywhere [] rises so x y hx hy order = holds.level x y _ _ (pos 0) hx hy order (is_none x) (is_none y)
  everywhere (p ∷ pairs) rises so x y hx hy order =
      bent (λ z. Unit {0}) p (λ X F. at_end F p) (λ X F. correction_after X F p pairs)
      tt (is_held p (at p)) (is-start p pairs rises) (λ v w hv hw pv pw o. holds.level v w _ _ p.deviation hv hw o (is_held p v) (is_held p w)) (after p pairs rises so)
      x y hx hy tt tt order
