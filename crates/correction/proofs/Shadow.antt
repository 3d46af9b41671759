-- Laws of stored and lent tables compared. For each p there is a position within half
-- of D of p where the lent correction is within half of R of the stored one at p.
use Rattle.correction.proofs.Names.{◌≡◌, ap, cond, List, [], ◌∷◌, ℕ, ◌+◌, ◌*◌, ◌<◌, mul-pos, arith, ℤ, pos, ◌+ℤ◌, ◌-ℤ◌, ◌*ℤ◌, le_z, ◌<ℤ◌, up, dn, Fraction, ◌over◌, add_parts, sub-parts-ℤ, Pair, Correction, at_end}
use Rattle.correction.proofs.Names.{between, correction_after, correction, Rises, Close}
use Rattle.correction.proofs.Distances.{Near, near-as, near_times, near-mean, scaled, Apart, apart-whole}
use Rattle.correction.proofs.Order.{Ahead, AtMost, Below, by-test, is-up-to, is-behind}
use Rattle.correction.proofs.Weights.{at, run, run-parts, run-some, weights-run, weights-num}
use Rattle.correction.proofs.Bends.{value}

-- x is a position within half of D of p with such a lent correction.
pub record Shadow (D R : ℕ) (p : ℤ) (stored : Correction) (x : Fraction) (lent : Correction) : Type 0 where
  pub some : 0 < x.den
  pub near : Apart D 2 (p over 1) x
  pub stored-run : 0 < stored.run
  pub lent-run : 0 < lent.run
  pub apart : Apart R 2 (stored.num over stored.run) (value x lent)

-- A pair as lent and as stored.
record Alike (D R : ℕ) (a A : Pair) : Type 0 where
  point : Apart D 2 (at A) (at a)
  deviation : Apart R 2 (A.deviation over 1) (a.deviation over 1)

alike : {D R : ℕ} (a A : Pair) (lent stored : List Pair) → Close D R (a ∷ lent) (A ∷ stored) → Alike D R a A
alike a A lent stored close = record { point = apart-whole a.point A.point close.0; deviation = apart-whole a.deviation A.deviation close.1 }

-- The position where an end deviation holds: as far from the lent end as p is from the stored one.
abbrev shift : ℤ → Pair → Pair → ℤ
shift p a A = p +ℤ (a.point -ℤ A.point)

module _ (p : ℤ) (a A : Pair) where
  shift-parts : up (shift p a A) + (dn p + dn a.point + up A.point) ≡ dn (shift p a A) + (up p + up a.point + dn A.point)
  shift-parts = omega (arith, add_parts p (a.point -ℤ A.point), sub-parts-ℤ a.point A.point)

  shifted : {D R : ℕ} → Alike D R a A → Shadow D R p (at_end 1 A) (shift p a A over 1) (at_end 1 a)
  shifted h = omega (arith, shift-parts, h.point.near, h.deviation.near, scaled a.deviation 1, scaled A.deviation 1)

-- Between neighbours: the position divides the lent ones
-- as p divides the stored ones, with weights w and u.
abbrev mix : Pair → Pair → ℕ → ℕ → ℤ
mix a b w u = a.point *ℤ pos w +ℤ b.point *ℤ pos u

mix-parts : (a b : Pair) (w u : ℕ) → up (mix a b w u) + (dn a.point * w + dn b.point * u) ≡ dn (mix a b w u) + (up a.point * w + up b.point * u)
mix-parts a b w u = omega (arith, add_parts (a.point *ℤ pos w) (b.point *ℤ pos u), scaled a.point w, scaled b.point u)

-- N / F is the mean M, and n / (F × k) the mean m.
means-near : (R F k N N' n n' M M' m m' : ℕ) → N + M' ≡ N' + M → n + k * m' ≡ n' + k * m → Near (2 * (M + m')) (2 * (m + M')) (R * F) → Near (2 * (N * (F * k) + n' * F)) (2 * (N' * (F * k) + n * F)) (R * (F * (F * k)))
means-near R F k N N' n n' M M' m m' e f h = near-as (omega (arith, ap (λ (x : ℕ). x * (F * k)) e, ap (λ (x : ℕ). x * F) f)) (omega arith) (near_times (F * k) h)

module _ (p : ℤ) (a b A B : Pair) (rises : a.point <ℤ b.point) (stored-rises : A.point <ℤ B.point) {u w : ℕ} (left : Ahead (at A) (p over 1) u) (right : Ahead (p over 1) (at B) w) where
  abbrev x : Fraction
  x = mix a b w u over u + w

  mix-left : Ahead (at a) x (run a b * u)
  mix-left = omega (arith, mix-parts a b w u, ap (λ (k : ℕ). k * u) (run-parts a b rises))

  mix-right : Ahead x (at b) (run a b * w)
  mix-right = omega (arith, mix-parts a b w u, ap (λ (k : ℕ). k * w) (run-parts a b rises))

  mixed : {D R : ℕ} → Alike D R a A → Alike D R b B → Shadow D R p (between p 1 A B) x (between (mix a b w u) (u + w) a b)
  unfolding between
  mixed {D} {R} h i =
      let total : run A B ≡ u + w = omega (arith, weights-run A B stored-rises left right) in
      record {
        some = omega (arith, run-some A B stored-rises);
        near = record { near = near-as (omega (arith, mix-parts a b w u, ap (λ (k : ℕ). w * k) left.is, ap (λ (k : ℕ). u * k) right.is)) (omega arith) (near-mean w u h.point.near i.point.near) };
        stored-run = run-some A B stored-rises;
        lent-run = run-some a b rises;
        apart = record {
          near =
              rw total
              (means-near R (u + w) (run a b) _ _ _ _
              (up A.deviation * w + up B.deviation * u) (dn A.deviation * w + dn B.deviation * u)
              (up a.deviation * w + up b.deviation * u) (dn a.deviation * w + dn b.deviation * u)
              (weights-num A B stored-rises left right)
              (omega (arith, weights-num a b rises mix-left mix-right))
              (near-as (omega arith) (omega arith) (near-mean w u h.deviation.near i.deviation.near)));
        };
      }

-- A position of P near p whose lent correction is near the stored one, for a lent line.
pub record Cast (D R : ℕ) (p : ℤ) (stored : Correction) (lent : ℤ → ℕ → Correction) (P : Fraction → Type 0) : Type 0 where
  pub x : Fraction
  pub there : P x
  pub shadow : Shadow D R p stored x (lent x.num x.den)

module _ {D R : ℕ} (p : ℤ) where
  -- Lines that bend at a and A: the position is before or after
  -- the lent bend as p is before or after the stored one.
  bent : (P : Fraction → Type 0) (a A : Pair) (c c' : Correction) (d d' : ℤ → ℕ → Correction)
      → ((x : Fraction) → Below (at a) x → P x)
      → (AtMost (p over 1) (at A) → Cast D R p c d (λ x. P x × AtMost x (at a)))
      → (Below (at A) (p over 1) → Cast D R p c' d' (Below (at a)))
      → Cast D R p (cond (le_z p (A.point *ℤ pos 1)) c c') (λ X F. cond (le_z X (a.point *ℤ pos F)) (d X F) (d' X F)) P
  bent P a A c c' d d' from before past =
      by-test (p over 1) A.point (λ i. Cast D R p i (λ X F. cond (le_z X (a.point *ℤ pos F)) (d X F) (d' X F)) P)
      (λ h. let i = before h in record { x = i.x; there = i.there.0; shadow = rw (is-up-to i.x a.point i.there.1) i.shadow })
      (λ h. let i = past h in record { x = i.x; there = from i.x i.there; shadow = rw (is-behind i.x a.point i.there) i.shadow })

  after : (a A : Pair) (lent stored : List Pair) → Rises (a ∷ lent) → Rises (A ∷ stored) → Close D R (a ∷ lent) (A ∷ stored) → Below (at A) (p over 1) → Cast D R p (correction_after p 1 A stored) (λ X F. correction_after X F a lent) (Below (at a))
  unfolding correction_after
  after a A [] [] rises stored-rises close ((u, h), some) = record { x = shift p a A over 1; there = ((u, omega (arith, shift-parts p a A)), some); shadow = shifted p a A (alike a A [] [] close) }
  after a A [] (B ∷ stored) rises stored-rises close h = absurd close.2
  after a A (b ∷ lent) [] rises stored-rises close h = absurd close.2
  after a A (b ∷ lent) (B ∷ stored) rises stored-rises close ((u, h), some) =
      bent (Below (at a)) b B (between p 1 A B) _ (λ X F. between X F a b) (λ X F. correction_after X F b lent)
      (λ x ((v, i), more). ((v + run a b * x.den, omega (arith, i.is, ap (λ (k : ℕ). k * x.den) (run-parts a b rises.0))), omega arith))
      (λ (w, i). record {
        x = mix a b w u over u + w;
        there = (((run a b * u, mix-left p a b A B rises.0 stored-rises.0 h i), mul-pos (run-some a b rises.0) some), (run a b * w, mix-right p a b A B rises.0 stored-rises.0 h i));
        shadow = mixed p a b A B rises.0 stored-rises.0 h i (alike a A (b ∷ lent) (B ∷ stored) close) (alike b B lent stored close.2);
      })
      (after b B lent stored rises.1 stored-rises.1 close.2)

  pub cast : (lent stored : List Pair) → Rises lent → Rises stored → Close D R lent stored → Cast D R p (correction p 1 stored) (λ X F. correction X F lent) (λ x. Unit {0})
  unfolding correction
  cast [] [] rises stored-rises close = record { x = p over 1; there = tt; shadow = omega arith }
  cast [] (A ∷ stored) rises stored-rises close = absurd close
  cast (a ∷ lent) [] rises stored-rises close = absurd close
  cast (a ∷ lent) (A ∷ stored) rises stored-rises close =
      bent (λ x. Unit {0}) a A (at_end 1 A) _ (λ X F. at_end F a) (λ X F. correction_after X F a lent)
      (λ x h. tt)
      (λ (w, i). record { x = shift p a A over 1; there = (tt, (w, omega (arith, i.is, shift-parts p a A))); shadow = shifted p a A (alike a A lent stored close) })
      (after a A lent stored rises stored-rises close)
