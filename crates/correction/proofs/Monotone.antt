-- Laws of Note 14: the fraction is the line at p to the nearest
-- whole; the line never falls, and rounding keeps the order.
use Rattle.correction.proofs.Names.{◌≡◌, ap₂, ◌∙◌, subst₂, List, ℕ, ◌<◌, one-mul, mul-le-mul_right, arith, ℤ, pos, ◌+ℤ◌, ◌*ℤ◌, +ℤ_comm, ◌≤ℤ◌, Fraction, ◌over◌, nearest, le_z-parts, parts-≤ℤ, nearest-rises-parts}
use Rattle.correction.proofs.Names.{nearest-shift, Pair, Correction, correction, deviation, certificate_line, Meets, crossing, DeviatedNeverFalls, CrossingNeverFalls}
use Rattle.correction.proofs.Distances.{scaled}
use Rattle.correction.proofs.Order.{AtMost, whole-at-most}
use Rattle.correction.proofs.Climb.{each_two, Rising, rising}
use Rattle.correction.proofs.Crossings.{crosses}

-- Rounding keeps the order.
pub nearest-at-most : (f g : Fraction) → 0 < f.den → 0 < g.den → AtMost f g → nearest f ≤ℤ nearest g
nearest-at-most f g hf hg h = parts-≤ℤ (nearest f) (nearest g) (nearest-rises-parts f g hf hg (omega (arith, h.1.is)))

-- p plus the deviation is the line at p to the nearest whole.
deviated-nearest : (pairs : List Pair) (p : ℤ) → 0 < (correction p 1 pairs).run → nearest (certificate_line pairs p 1) ≡ p +ℤ deviation pairs p
unfolding certificate_line deviation
deviated-nearest pairs p some =
    let c : Correction = correction p 1 pairs in
    ap₂ (λ (z : ℤ) (n : ℕ). nearest (z over n)) (+ℤ_comm (p *ℤ pos c.run) c.num) (one-mul c.run)
    ∙ nearest-shift c.num p c.run some
    ∙ +ℤ_comm (nearest (c.num over c.run)) p

pub deviated-never-falls : DeviatedNeverFalls
unfolding certificate_line
deviated-never-falls pairs rises climbs p r h =
    let on : Rising ⊥ (p over 1) (correction p 1 pairs) (r over 1) (correction r 1 pairs) =
    rising ⊥ pairs rises (each_two (λ a b k. (k, λ t. absurd t)) pairs climbs) (p over 1) (r over 1) (omega arith) (omega arith) (whole-at-most p r h) in
    subst₂ ◌≤ℤ◌ (deviated-nearest pairs p on.first) (deviated-nearest pairs r on.second)
    (nearest-at-most (certificate_line pairs p 1) (certificate_line pairs r 1) (omega (arith, on.first)) (omega (arith, on.second)) on.never-falls)

-- What meets r meets everything not above r.
meets-lower : (pairs : List Pair) (p r k : ℤ) → p ≤ℤ r → Meets pairs r k → Meets pairs p k
meets-lower pairs p r k h m =
    let line : Fraction = certificate_line pairs k 1 in
    parts-≤ℤ (p *ℤ pos line.den) line.num
    (omega (arith, le_z-parts (r *ℤ pos line.den) line.num m.le, scaled p line.den, scaled r line.den, mul-le-mul_right line.den (le_z-parts p r h.le)))

pub crossing-never-falls : CrossingNeverFalls
crossing-never-falls pairs rises sums p r h =
    ((crosses pairs rises sums p).from (crossing pairs r)).0 (meets-lower pairs p r (crossing pairs r) h (crosses pairs rises sums r).is.meets)
