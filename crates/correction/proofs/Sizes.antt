-- Laws of the size of a correction, a deviation and a crossing.
use Rattle.correction.proofs.Names.{ap, List, [], ◌∷◌, ℕ, ◌+◌, ◌*◌, ◌^◌, ◌≤◌, ◌<◌, lt_of_mul-lt-mul_right, le_of_mul-le-mul_right, arith, ℤ, pos, negsuc, nat_abs, ◌+ℤ◌, ◌*ℤ◌, ◌<ℤ◌, up, dn, Fraction, ◌over◌}
use Rattle.correction.proofs.Names.{nearest, add_parts, abs-parts, le_z-parts, parts-≤ℤ, Low, High, nearest-low, nearest-high, Pair, point_of, Correction, at_end, between, correction_after, correction, deviation}
use Rattle.correction.proofs.Names.{certificate_line, Rises, SumsRise, Meets, crossing, OneCrossing, AllFigures, Table, Between}
use Rattle.correction.proofs.Distances.{Near, near-as, near_times, near-mean, near-abs, less, scaled}
use Rattle.correction.proofs.Order.{AtMost, whole-at-most, by-test}
use Rattle.correction.proofs.Weights.{at, run-some, weights-run, weights-num}
use Rattle.correction.proofs.Climb.{raised-parts}
use Rattle.correction.proofs.Crossings.{crosses}

-- The nearest whole of a fraction from −B to B.
pub nearest-small : (B : ℕ) (f : Fraction) → 0 < f.den → Near (up f.num) (dn f.num) (B * f.den) → nat_abs (nearest f) ≤ B
nearest-small B f some h = go (nearest f) (nearest-low f some) (nearest-high f some)
  where
    less : (k : ℕ) → 2 * (k * f.den) ≤ 2 * (B * f.den) + f.den → k ≤ B
    less k l = let below : k < B + 1 = lt_of_mul-lt-mul_right f.den (omega arith) in omega arith

    go : (k : ℤ) → Low f k → High f k → nat_abs k ≤ B
    go (pos n) l g = less n (omega arith)
    go (negsuc n) l g = less (nat_abs (negsuc n)) (omega arith)

-- A correction is a fraction, from −B to B.
pub record Small (B : ℕ) (x : Fraction) (c : Correction) : Type 0 where
  pub some : 0 < c.run
  pub size : Near (up c.num) (dn c.num) (B * (x.den * c.run))

size : (B : ℕ) (s : ℤ) → nat_abs s ≤ B → Near (up s) (dn s) B
size B s h = omega (arith, abs-parts s)

-- Every deviation is from −B to B.
abbrev pub Deviations : ℕ → List Pair → Type 0
Deviations B [] = Unit {0}
Deviations B (p ∷ pairs) = (nat_abs p.deviation ≤ B) × Deviations B pairs

table-deviations : (points : List Pair) → AllFigures points → Deviations (2 ^ 32) points
table-deviations [] h = tt
table-deviations (p ∷ points) h = (h.0.deviation, table-deviations points h.1)

module _ (B : ℕ) (x : Fraction) where
  held_small : (p : Pair) → nat_abs p.deviation ≤ B → Small B x (at_end x.den p)
  held_small p h = record { some = omega arith; size = near-as (omega (arith, scaled p.deviation x.den)) (omega arith) (near_times x.den (size B p.deviation h)) }

  between-small : (p r : Pair) → p.point <ℤ r.point → nat_abs p.deviation ≤ B → nat_abs r.deviation ≤ B → AtMost (at p) x → AtMost x (at r) → Small B x (between x.num x.den p r)
  unfolding between
  between-small p r rises h g (u, left) (w, right) = record {
    some = run-some p r rises;
    size =
        near-as (omega (arith, weights-num p r rises left right)) (omega (arith, ap (λ (k : ℕ). B * k) (weights-run p r rises left right)))
        (near-mean w u (size B p.deviation h) (size B r.deviation g));
  }

  after_small : (p : Pair) (pairs : List Pair) → Rises (p ∷ pairs) → Deviations B (p ∷ pairs) → AtMost (at p) x → Small B x (correction_after x.num x.den p pairs)
  unfolding correction_after
  after_small p [] rises deviations h = held_small p deviations.0
  after_small p (r ∷ pairs) rises deviations h =
      by-test x r.point (Small B x)
      (between-small p r rises.0 deviations.0 deviations.1.0 h)
      (λ i. after_small r pairs rises.1 deviations.1 i.0)

  correction-within : (points : List Pair) → Rises points → Deviations B points → Small B x (correction x.num x.den points)
  unfolding correction
  correction-within [] rises deviations = omega arith
  correction-within (p ∷ pairs) rises deviations = by-test x p.point (Small B x) (λ h. held_small p deviations.0) (λ h. after_small p pairs rises deviations h.0)

pub deviation-within : (B : ℕ) (points : List Pair) (p : ℤ) → Rises points → Deviations B points → nat_abs (deviation points p) ≤ B
unfolding deviation
deviation-within B points p rises deviations =
    let s = correction-within B (p over 1) points rises deviations in
    nearest-small B ((correction p 1 points).num over (correction p 1 points).run) s.some (near-as (omega arith) (omega arith) s.size)

pub deviation-small : (points : List Pair) (p : ℤ) → Table points → nat_abs (deviation points p) ≤ 2 ^ 32
deviation-small points p t = deviation-within (2 ^ 32) points p t.rises (table-deviations points t.figures)

pub between-deviates : (p : ℤ) (a b : Pair) → Between point_of p a b → nat_abs (nearest ((between p 1 a b).num over (between p 1 a b).run)) ≤ 2 ^ 32
between-deviates p a b h =
    let s = between-small (2 ^ 32) (p over 1) a b h.rise h.first.deviation h.second.deviation (whole-at-most a.point p (less a.point p h.past)) (whole-at-most p b.point h.left) in
    nearest-small (2 ^ 32) ((between p 1 a b).num over (between p 1 a b).run) s.some (near-as (omega arith) (omega arith) s.size)

-- The crossing is within B of p, since the line at p + B is at least p.
pub crossing-within : (B P : ℕ) (points : List Pair) (p : ℤ) → Rises points → SumsRise points → Deviations B points → nat_abs p ≤ P → nat_abs (crossing points p) ≤ P + B
unfolding certificate_line
crossing-within B P points p rises sums deviations small =
    omega (arith, near-abs {b = P + B} 1 q (omega (arith, low, le_z-parts q k (c.is.least k high).le, add_parts p (pos B), abs-parts p)))
  where
    c : OneCrossing points p
    c = crosses points rises sums p

    q : ℤ
    q = crossing points p

    k : ℤ
    k = p +ℤ pos B

    line : (z : ℤ) → Small B (z over 1) (correction z 1 points)
    line z = correction-within B (z over 1) points rises deviations

    low : up p + dn q ≤ dn p + up q + B
    low =
        let n = (correction q 1 points).run in
        le_of_mul-le-mul_right {k = n}
        (omega (arith, le_z-parts (p *ℤ pos (1 * n)) (certificate_line points q 1).num c.is.meets.le, scaled p (1 * n), raised-parts (q over 1) (correction q 1 points), (line q).size))
        (line q).some

    high : Meets points p k
    high =
        let n = (correction k 1 points).run in
        parts-≤ℤ (p *ℤ pos (1 * n)) (certificate_line points k 1).num
        (omega (arith, scaled p (1 * n), raised-parts (k over 1) (correction k 1 points), (line k).size, ap (λ (z : ℕ). z * n) (add_parts p (pos B))))

pub crossing-small : (points : List Pair) (p : ℤ) → Table points → SumsRise points → nat_abs p ≤ 2 ^ 31 → nat_abs (crossing points p) ≤ 2 ^ 33
crossing-small points p t sums small =
    omega (arith, crossing-within (2 ^ 32) (2 ^ 31) points p t.rises sums (table-deviations points t.figures) small)
