-- Laws of the line x + c: it never falls if points
-- plus deviations never fall, and rises if they rise.
use Rattle.correction.proofs.Names.{◌≡◌, ap, List, [], ◌∷◌, ℕ, zero, suc, ◌+◌, ◌*◌, ◌<◌, mul-pos, arith, ℤ, pos, nat_abs, ◌+ℤ◌, ◌-ℤ◌, ◌*ℤ◌, ◌≤ℤ◌, ◌<ℤ◌, up, dn, Fraction, ◌over◌, add_parts, sub-parts-ℤ, lt_z-parts}
use Rattle.correction.proofs.Names.{Pair, Correction, between, correction, Neighbours, Rises, sum}
use Rattle.correction.proofs.Distances.{above-parts, scaled}
use Rattle.correction.proofs.Order.{Ahead, AtMost, through}
use Rattle.correction.proofs.Weights.{at, run, rise, run-parts, run-some, between-parts}
use Rattle.correction.proofs.Bends.{Is, everywhere}

-- x plus the correction c there.
abbrev pub raised : Fraction → Correction → Fraction
raised x c = x.num *ℤ pos c.run +ℤ c.num over x.den * c.run

pub raised-parts : (x : Fraction) (c : Correction) → up (raised x c).num + (dn x.num * c.run + dn c.num) ≡ dn (raised x c).num + (up x.num * c.run + up c.num)
raised-parts x c = omega (arith, add_parts (x.num *ℤ pos c.run) c.num, scaled x.num c.run)

-- x + s.
abbrev plus : Fraction → ℤ → Fraction
plus x s = x.num +ℤ s *ℤ pos x.den over x.den

plus-parts : (x : Fraction) (s : ℤ) → up (plus x s).num + (dn x.num + dn s * x.den) ≡ dn (plus x s).num + (up x.num + up s * x.den)
plus-parts x s = omega (arith, add_parts x.num (s *ℤ pos x.den), scaled s x.den)

plus-ahead : {x y : Fraction} {d : ℕ} (s : ℤ) → Ahead x y d → Ahead (plus x s) (plus y s) d
plus-ahead {x} {y} s h = omega (arith, h.is, ap (λ (k : ℕ). k * y.den) (plus-parts x s), ap (λ (k : ℕ). k * x.den) (plus-parts y s))

ahead-plus : {x y : Fraction} {d : ℕ} (s : ℤ) → Ahead (plus x s) (plus y s) d → Ahead x y d
ahead-plus {x} {y} s h = omega (arith, h.is, ap (λ (k : ℕ). k * y.den) (plus-parts x s), ap (λ (k : ℕ). k * x.den) (plus-parts y s))

-- The correction by parts, if it is s.
is-parts : {s : ℤ} {x : Fraction} {c : Correction} → Is s x c → up c.num + dn s * (x.den * c.run) ≡ dn c.num + up s * (x.den * c.run)
is-parts h = omega (arith, h.is.near)

is-plus : {s : ℤ} {x : Fraction} {c : Correction} → Is s x c → Ahead (raised x c) (plus x s) 0
is-plus {s} {x} {c} h = omega (arith, ap (λ (k : ℕ). k * x.den) (is-parts h), ap (λ (k : ℕ). k * x.den) (raised-parts x c), ap (λ (k : ℕ). k * (x.den * c.run)) (plus-parts x s))

to-plus : {s : ℤ} {x : Fraction} {c : Correction} → Is s x c → AtMost (raised x c) (plus x s)
to-plus h = (0, is-plus h)

from-plus : {s : ℤ} {x : Fraction} {c : Correction} → Is s x c → AtMost (plus x s) (raised x c)
from-plus h = (0, omega (arith, (is-plus h).is))

-- ---- between neighbours

-- How far the sum of a point is above the sum of the point before it.
abbrev pub climb : Pair → Pair → ℕ
climb p r = nat_abs (sum r -ℤ sum p)

module _ (p r : Pair) (rises : p.point <ℤ r.point) (climbs : sum p ≤ℤ sum r) where
  pub climb-parts : up (sum r) + dn (sum p) ≡ dn (sum r) + up (sum p) + climb p r
  climb-parts = above-parts (sum p) (sum r) climbs

  climb-some : sum p <ℤ sum r → 0 < climb p r
  climb-some h = omega (arith, climb-parts, lt_z-parts (sum p) (sum r) h.lt)

  climb-is : climb p r + dn (rise p r) ≡ run p r + up (rise p r)
  climb-is =
      omega (
        arith,
        climb-parts,
        run-parts p r rises,
        add_parts p.point p.deviation,
        add_parts r.point r.deviation,
        sub-parts-ℤ r.deviation p.deviation,
      )

  -- At u / F from the left point the line is climb × u / (F × run) above that point's sum.
  pub line-between : {x : Fraction} {u : ℕ} → Ahead (at p) x u →
      up (raised x (between x.num x.den p r)).num + dn (sum p) * (x.den * run p r) ≡ dn (raised x (between x.num x.den p r)).num + up (sum p) * (x.den * run p r) + climb p r * u
  unfolding between
  line-between {x} {u} left =
      omega (
        arith,
        raised-parts x (between x.num x.den p r),
        between-parts p r rises left,
        ap (λ (k : ℕ). k * run p r) left.is,
        ap (λ (k : ℕ). k * (x.den * run p r)) (add_parts p.point p.deviation),
        ap (λ (k : ℕ). k * u) climb-is,
      )

-- ---- everywhere

pub each_two : {S T : Pair → Pair → Type 0} → ((p r : Pair) → S p r → T p r) → (pairs : List Pair) → Neighbours S pairs → Neighbours T pairs
each_two f [] h = tt
each_two f (p ∷ []) h = tt
each_two f (p ∷ r ∷ pairs) h = (f p r h.0, each_two f (r ∷ pairs) h.1)

module _ (Strict : Type 0) where
  -- Neighbours whose sums never fall, or rise.
  abbrev pub Climbs : Pair → Pair → Type 0
  Climbs p r = (sum p ≤ℤ sum r) × (Strict → sum p <ℤ sum r)

  -- The line does not fall, or rises, from x with the correction c to y with e.
  pub record Rising (x : Fraction) (c : Correction) (y : Fraction) (e : Correction) : Type 0 where
    pub first : 0 < c.run
    pub second : 0 < e.run
    pub never-falls : AtMost (raised x c) (raised y e)
    pub rises : Strict → AtMost (raised y e) (raised x c) → AtMost y x

  level : (x y : Fraction) (c e : Correction) (s : ℤ) → 0 < x.den → 0 < y.den → AtMost x y → Is s x c → Is s y e → Rising x c y e
  level x y c e s hx hy (d, h) i j = record {
    first = i.some;
    second = j.some;
    never-falls = through hx (to-plus i) (through hy (d, plus-ahead s h) (from-plus j));
    rises = λ t k. let (g, l) = through (mul-pos hx i.some) (through (mul-pos hy j.some) (from-plus j) k) (to-plus i) in (g, ahead-plus s l);
  }

  straight : (p r : Pair) → p.point <ℤ r.point → Climbs p r → (x y : Fraction) → 0 < x.den → 0 < y.den → AtMost (at p) x → AtMost (at p) y → AtMost x y →
      Rising x (between x.num x.den p r) y (between y.num y.den p r)
  unfolding between
  straight p r rises (climbs, strict) x y hx hy (u, left) (v, left') (d, h) = record {
    first = run-some p r rises;
    second = run-some p r rises;
    never-falls = (climb p r * d * run p r, higher);
    rises = λ t k. no-farther (strict t) d h (omega (arith, higher.is, k.1.is));
  }
    where
      apart : v * x.den ≡ u * y.den + d
      apart = omega (arith, h.is, ap (λ (k : ℕ). k * y.den) left.is, ap (λ (k : ℕ). k * x.den) left'.is)

      higher : Ahead (raised x (between x.num x.den p r)) (raised y (between y.num y.den p r)) (climb p r * d * run p r)
      higher =
          omega (
            arith,
            ap (λ (k : ℕ). k * (y.den * run p r)) (line-between p r rises climbs left),
            ap (λ (k : ℕ). k * (x.den * run p r)) (line-between p r rises climbs left'),
            ap (λ (k : ℕ). climb p r * run p r * k) apart,
          )

      no-farther : sum p <ℤ sum r → (k : ℕ) → Ahead x y k → climb p r * k * run p r ≡ 0 → AtMost y x
      no-farther s zero i z = (0, omega (arith, i.is))
      no-farther s (suc k) i z =
          let some : 0 < climb p r * suc k * run p r = mul-pos (mul-pos (climb-some p r rises climbs s) (omega arith)) (run-some p r rises) in
          absurd (omega arith)

  joined : (x y : Fraction) (b : Pair) (c c' e' e : Correction) → 0 < x.den → 0 < y.den → AtMost x (at b) → AtMost (at b) y → Is b.deviation (at b) c' → Is b.deviation (at b) e' →
      Rising x c (at b) c' → Rising (at b) e' y e → Rising x c y e
  joined x y b c c' e' e hx hy to on i j l r = record {
    first = l.first;
    second = r.second;
    never-falls = through ic l.never-falls (through ie same r.never-falls);
    rises = λ t k.
        through (omega arith) (r.rises t (through (mul-pos hx l.first) k (through ic l.never-falls same)))
        (l.rises t (through ie same (through (mul-pos hy r.second) r.never-falls k)));
  }
    where
      ic : 0 < (at b).den * c'.run
      ic = omega (arith, i.some)

      ie : 0 < (at b).den * e'.run
      ie = omega (arith, j.some)

      same : AtMost (raised (at b) c') (raised (at b) e')
      same = through (omega arith) (to-plus i) (from-plus j)

  pub rising : (pairs : List Pair) → Rises pairs → Neighbours Climbs pairs → (x y : Fraction) → 0 < x.den → 0 < y.den → AtMost x y →
      Rising x (correction x.num x.den pairs) y (correction y.num y.den pairs)
  rising = everywhere Climbs Rising (record { level = level; straight = straight; joined = joined })
