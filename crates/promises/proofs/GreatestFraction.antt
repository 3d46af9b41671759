-- Laws of the greatest fraction of a reading without a
-- curve, and of the figure's distance known beforehand.
use Rattle.promises.proofs.Names.{◌≡◌, refl, ap, Bool, true, false, ◌||◌, true≢false, List, [], ◌∷◌, map, Option, None, Some, ℕ, ◌+◌, ◌*◌, ◌≤◌, ◌<◌, mul-le-mul_left, mul-le-mul_right, arith, ltb-false, ltb, ℤ}
use Rattle.promises.proofs.Names.{pos, nat_abs, neg_ℤ, ◌+ℤ◌, ◌-ℤ◌, ◌*ℤ◌, lt_z, ◌<ℤ◌, Float, up, dn, Fraction, ◌over◌, add_parts, sub-parts-ℤ, mul-parts, abs-parts, up_neg, dn-neg, lt_z-parts, nlt_z-parts, is_false}
use Rattle.promises.proofs.Names.{OutsideTable, passed, Codes, Domain, Electrical, Physical, R, least_deviation, cal_deviation, billion, top_code, stepped_value, decode, stepped-whole, Found, FoundPair, Calibration}
use Rattle.promises.proofs.Names.{bare, table, curve, codes_in, figure, pair_in, contents-accepted, FieldAt, PairsAt, CalibrationAt, deviation, less, above-parts, near-abs, scaled, nearest-small, Deviations}
use Rattle.promises.proofs.Names.{deviation-within, crossing-within, calibration-rises, least, greatest, too_far, position, fraction, pairs-table, shown, altered, least_in, greatest_in, line_for, NoCurve}
use Rattle.promises.proofs.Names.{FigureWithin, low_in, high_in, greatest_fraction, FractionAtMost, DistanceFigure, units}
use Rattle.promises.proofs.KeptLent.{kept-lent}
use Rattle.promises.proofs.Beforehand.{distance-holds}
use Rattle.promises.proofs.Figures.{taken}
use Rattle.promises.proofs.FigureLines.{figure-strays, no-curve}

-- ---- the position is at most 1,100,000,000

last-two : (a b c d : Bool) → (a || b || c || d) ≡ false → (c ≡ false) × (d ≡ false)
last-two true b c d e = absurd (true≢false e)
last-two false true c d e = absurd (true≢false e)
last-two false false true d e = absurd (true≢false e)
last-two false false false d e = (refl, e)

position-most : (v e f : ℤ) → e <ℤ f → too_far v e f ≡ false → nat_abs (position v e f) ≤ 1_100_000_000
unfolding position
position-most v e f span near =
    let w = v -ℤ e in
    let g = f -ℤ e in
    let t = last-two (lt_z v (neg_ℤ (pos 2_000_000_000))) (lt_z (pos 2_000_000_000) v) (lt_z (pos 10 *ℤ w) (neg_ℤ g)) (lt_z (pos 11 *ℤ g) (pos 10 *ℤ w)) near in
    let Some : 0 < nat_abs g = omega (arith, lt_z-parts e f span.lt, sub-parts-ℤ f e, abs-parts g) in
    let run : up g ≡ dn g + nat_abs g = omega (arith, above-parts e f (less e f span), sub-parts-ℤ f e) in
    let low = nlt_z-parts (pos 10 *ℤ w) (neg_ℤ g) (is_false t.0) in
    let high = nlt_z-parts (pos 11 *ℤ g) (pos 10 *ℤ w) (is_false t.1) in
    nearest-small 1_100_000_000 (w *ℤ pos billion over nat_abs g) Some
    (omega (arith, run, low, high, up_neg g, dn-neg g, mul-parts (pos 10) w, mul-parts (pos 11) g, scaled w billion))

-- ---- a deviation is at most 1,097,150,000

deviation-most : {at : ℕ} {x : Found} → FieldAt cal_deviation at x → nat_abs (figure x.value) ≤ 1_097_150_000
unfolding decode
deviation-most {at} {x} h =
    let is = ap figure (stepped-whole 21 least_deviation R at x.code x.value h.means) in
    let code : x.code ≤ top_code 21 = ltb-false (top_code 21) x.code (passed (OutsideTable at) (ltb (top_code 21) x.code) _ x.value h.means).0 in
    rw is (omega (arith, near-abs {b = 1_097_150_000} 1 (stepped_value least_deviation R x.code) (omega (arith, code, add_parts least_deviation (pos (R * x.code))))))

deviations-most : (domain : Domain) (before : Option Codes) (at : ℕ) (pairs : List FoundPair) → PairsAt domain before at pairs → Deviations 1_097_150_000 (map pair_in pairs)
deviations-most domain before at [] h = tt
deviations-most domain before at (p ∷ pairs) h = (deviation-most h.0.deviation, deviations-most domain (Some (codes_in p)) (at + 37) pairs h.1)

-- ---- their sum

sum-most : (p d : ℤ) → nat_abs p ≤ 1_100_000_000 → nat_abs d ≤ 1_097_150_000 → nat_abs (p +ℤ d) ≤ greatest_fraction
sum-most p d hp hd = omega (arith, near-abs {b = greatest_fraction} 1 (p +ℤ d) (omega (arith, add_parts p d, abs-parts p, abs-parts d)))

fraction-most : (at : ℕ) (k : Calibration) (p : ℤ) → CalibrationAt at k → NoCurve k → nat_abs p ≤ 1_100_000_000 → nat_abs (fraction k p) ≤ greatest_fraction
fraction-most at bare p h s l = omega arith
fraction-most at (table Electrical pairs) p h s l =
    let t = pairs-table Electrical None (at + 18) pairs h.stand in
    sum-most p (deviation (map pair_in pairs) p) l (deviation-within 1_097_150_000 (map pair_in pairs) p t.rises (deviations-most Electrical None (at + 18) pairs h.stand))
fraction-most at (table Physical pairs) p h s l =
    let t = pairs-table Physical None (at + 18) pairs h.stand in
    crossing-within 1_097_150_000 1_100_000_000 (map pair_in pairs) p t.rises (calibration-rises at (table Physical pairs) Physical h refl)
    (deviations-most Physical None (at + 18) pairs h.stand) l
fraction-most at (curve segments) p h s l = absurd s

pub fraction-at-most : FractionAtMost
fraction-at-most kind image c v dash r accepted plain e =
    let t = taken kind image c v dash r accepted e in
    rw t.counts
    (fraction-most _ c.calibration (position v (least c) (greatest c)) (contents-accepted kind image c accepted).holding.formed.calibrated plain
    (position-most v (least c) (greatest c) t.rises t.inside))

-- ---- known beforehand

more : (B q Q : ℕ) (low high figure : Float) (line : Fraction) → q ≤ Q → FigureWithin B q low high figure line → FigureWithin B Q low high figure line
more B q Q low high figure line l h =
    let s = nat_abs (units high -ℤ units low) in
    let a : 4 * q + 1 ≤ 4 * Q + 1 = omega arith in
    omega (arith, h, mul-le-mul_right line.den (mul-le-mul_left s a))

pub distance-figure : DistanceFigure
distance-figure kind buffer sheet text points built alterations readingKind v dash r d told lendable real made e =
    let image : List ℕ = altered built alterations in
    let s = shown readingKind image v dash r e in
    let k = kept-lent kind buffer sheet text Electrical points built alterations readingKind s.holds lendable real made s.accepted in
    let plain = no-curve _ s.holds.calibration (contents-accepted readingKind image s.holds s.accepted).holding.formed.calibrated k.keeps_segments in
    more d.bound (nat_abs r.fraction) greatest_fraction (low_in readingKind image) (high_in readingKind image) r.figure (line_for points v (least_in readingKind image) (greatest_in readingKind image))
    (fraction-at-most readingKind image s.holds v dash r s.accepted plain e)
    (figure-strays readingKind image s.holds v dash r d.bound _ s.accepted plain e
    (distance-holds kind buffer sheet text points built alterations readingKind v dash r d told lendable real made e))
