-- Laws of the deviation of a table whose points rise.
use Rattle.promises.proofs.Names.{◌≡◌, ap, ◌∙◌, List, [], ◌∷◌, ◌++◌, ℕ, ◌+◌, ◌*◌, ◌<◌, ◌≤◌, mul-le-mul_right, arith, ℤ, pos, ◌*ℤ◌, ◌≤ℤ◌, ◌<ℤ◌, up, dn, ◌over◌, nearest, same, mul-parts, le_z-parts, lt_z-parts}
use Rattle.promises.proofs.Names.{parts-≤ℤ, le-le_z, lt-le_z, nearest-rises-parts, nearest-exact, nearest-is, Pair, Correction, at_end, between, correction_after, correction, deviation, Rises, AtMost, at_most, scaled}
use Rattle.promises.proofs.Names.{at, weights-run, weights-num, FirstHolds, LastHolds, AllWithin, DeviationWithin}
use Rattle.correction.proofs.Order.{by-test}
use Rattle.promises.proofs.Rounding.{correction-some}

-- A deviation that holds is a whole number.
held : (a : Pair) → nearest ((at_end 1 a).num over (at_end 1 a).run) ≡ a.deviation
held a = nearest-exact a.deviation 1 (omega arith)

pub first_holds : FirstHolds
unfolding deviation correction
first_holds first pairs p h = rw (le-le_z p (first.point *ℤ pos 1) (omega (arith, le_z-parts p first.point h.le, mul-parts first.point (pos 1)))) (held first)

-- ---- after the last

-- Every point of a table that rises is at most its last.
last-most : (a : Pair) (pairs : List Pair) (last : Pair) → Rises (a ∷ (pairs ++ (last ∷ []))) → up a.point + dn last.point < up last.point + dn a.point
last-most a [] last rises = lt_z-parts a.point last.point rises.0.lt
last-most a (b ∷ pairs) last rises = omega (arith, lt_z-parts a.point b.point rises.0.lt, last-most b pairs last rises.1)

-- The correction is exactly t.
abbrev Exactly : ℤ → Correction → Type 0
Exactly t c = up c.num + dn t * c.run ≡ dn c.num + up t * c.run

exactly : (t : ℤ) (c : Correction) → 0 < c.run → Exactly t c → nearest (c.num over c.run) ≡ t
exactly t c some e =
    ap (λ (n : ℤ). nearest (n over c.run)) (same c.num (t *ℤ pos c.run) (omega (arith, scaled t c.run))) ∙ nearest-exact t c.run some

module _ (last : Pair) (p : ℤ) (h : last.point ≤ℤ p) where
  end-exactly : Exactly last.deviation (at_end 1 last)
  end-exactly = omega (arith, scaled last.deviation 1)

  -- At the last point itself the line from the point before it has its deviation.
  at_last : (a : Pair) → a.point <ℤ last.point → AtMost (p over 1) (at last) → Exactly last.deviation (between p 1 a last)
  unfolding between
  at_last a rises (w, right) =
      let none : w ≡ 0 = omega (arith, right.is, le_z-parts last.point p h.le) in
      let (u, left) = at_most (at a) (p over 1) (omega (arith, lt_z-parts a.point last.point rises.lt, le_z-parts last.point p h.le)) in
      let run : (between p 1 a last).run ≡ u = omega (arith, weights-run a last rises left right, none) in
      omega (
        arith,
        weights-num a last rises left right,
        ap (λ (k : ℕ). dn a.deviation * k) none,
        ap (λ (k : ℕ). up a.deviation * k) none,
        ap (λ (k : ℕ). dn last.deviation * k) run,
        ap (λ (k : ℕ). up last.deviation * k) run,
      )

  past-last : (a : Pair) (pairs : List Pair) → Rises (a ∷ (pairs ++ (last ∷ []))) → Exactly last.deviation (correction_after p 1 a (pairs ++ (last ∷ [])))
  unfolding correction_after
  past-last a [] rises = by-test (p over 1) last.point (Exactly last.deviation) (at_last a rises.0) (λ i. end-exactly)
  past-last a (b ∷ pairs) rises =
      rw (lt-le_z p (b.point *ℤ pos 1) (omega (arith, le_z-parts last.point p h.le, last-most b pairs last rises.1, scaled b.point 1)))
      (past-last b pairs rises.1)

  all_past : (pairs : List Pair) → Rises (pairs ++ (last ∷ [])) → Exactly last.deviation (correction p 1 (pairs ++ (last ∷ [])))
  unfolding correction correction_after
  all_past [] rises = by-test (p over 1) last.point (Exactly last.deviation) (λ i. end-exactly) (λ i. end-exactly)
  all_past (a ∷ pairs) rises =
      rw (lt-le_z p (a.point *ℤ pos 1) (omega (arith, le_z-parts last.point p h.le, last-most a pairs last rises, scaled a.point 1)))
      (past-last a pairs rises)

pub last-holds : LastHolds
unfolding deviation
last-holds pairs last p rises h = exactly last.deviation _ (correction-some p (pairs ++ (last ∷ [])) rises) (all_past last p h pairs rises)

-- ---- from the least to the greatest

-- A correction from low to high.
pub record Within (low high : ℤ) (c : Correction) : Type 0 where
  pub least : up low * c.run + dn c.num ≤ up c.num + dn low * c.run
  pub most : up c.num + dn high * c.run ≤ up high * c.run + dn c.num

module _ (low high p : ℤ) where
  end-within : (a : Pair) → low ≤ℤ a.deviation → a.deviation ≤ℤ high → Within low high (at_end 1 a)
  end-within a l h =
      record {
        least = omega (arith, le_z-parts low a.deviation l.le, mul-parts a.deviation (pos 1));
        most = omega (arith, le_z-parts a.deviation high h.le, mul-parts a.deviation (pos 1));
      }

  between-within : (a b : Pair) → a.point <ℤ b.point → AllWithin low high (a ∷ b ∷ []) → AtMost (at a) (p over 1) → AtMost (p over 1) (at b) →
      Within low high (between p 1 a b)
  unfolding between
  between-within a b rises (la, ha, (lb, hb, end)) (u, left) (w, right) =
      let run : (between p 1 a b).run ≡ u + w = omega (arith, weights-run a b rises left right) in
      let num = weights-num a b rises left right in
      record {
        least = omega (
          arith,
          num,
          ap (λ (k : ℕ). up low * k) run,
          ap (λ (k : ℕ). dn low * k) run,
          mul-le-mul_right w (le_z-parts low a.deviation la.le),
          mul-le-mul_right u (le_z-parts low b.deviation lb.le),
        );
        most = omega (
          arith,
          num,
          ap (λ (k : ℕ). up high * k) run,
          ap (λ (k : ℕ). dn high * k) run,
          mul-le-mul_right w (le_z-parts a.deviation high ha.le),
          mul-le-mul_right u (le_z-parts b.deviation high hb.le),
        );
      }

  after-within : (a : Pair) (pairs : List Pair) → Rises (a ∷ pairs) → AllWithin low high (a ∷ pairs) → AtMost (at a) (p over 1) → Within low high (correction_after p 1 a pairs)
  unfolding correction_after
  after-within a [] rises all h = end-within a all.0 all.1
  after-within a (b ∷ pairs) rises all h =
      by-test (p over 1) b.point (Within low high)
      (between-within a b rises.0 (all.0, all.1, (all.2.0, all.2.1, tt)) h)
      (λ i. after-within b pairs rises.1 all.2 i.0)

  correction-within : (a : Pair) (pairs : List Pair) → Rises (a ∷ pairs) → AllWithin low high (a ∷ pairs) → Within low high (correction p 1 (a ∷ pairs))
  unfolding correction
  correction-within a pairs rises all =
      by-test (p over 1) a.point (Within low high) (λ h. end-within a all.0 all.1) (λ h. after-within a pairs rises all h.0)

-- A whole number is its own nearest.
itself : (k : ℤ) → nearest (k over 1) ≡ k
itself k = nearest-is (k over 1) k (omega arith) (omega arith)

pub deviation-within : DeviationWithin
unfolding deviation
deviation-within low high first pairs p rises all =
    let c = correction p 1 (first ∷ pairs) in
    let some = correction-some p (first ∷ pairs) rises in
    let w = correction-within low high p first pairs rises all in
    let bottom = nearest-rises-parts (low over 1) (c.num over c.run) (omega arith) some (omega (arith, w.least)) in
    let top = nearest-rises-parts (c.num over c.run) (high over 1) some (omega arith) (omega (arith, w.most)) in (
      parts-≤ℤ low (nearest (c.num over c.run)) (rw (itself low) at bottom),
      parts-≤ℤ (nearest (c.num over c.run)) high (rw (itself high) at top),
    )
