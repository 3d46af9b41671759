-- Laws of the nested rule from the fifth power: absent powers
-- are 0, and change at most the sign of a correction of zero.
use Rattle.promises.proofs.Names.{◌≡◌, refl, sym, ap, ◌∙◌, subst, Bool, false, ◌&&◌, List, [], ◌∷◌, ◌++◌, ℕ, zero, suc, ◌+◌, ◌-◌, ◌*◌, ◌^◌, ◌≤◌, ◌<◌, arith, mul-le-mul_right, le-mul_of_pos_right, T, lit≤, ℤ, pos}
use Rattle.promises.proofs.Names.{nat_abs, length, replicate, Float, binary64, fits, mul, of_int, overflow, Term, coefficients, nested, argument, fraction_by, fraction_of, serving_terms, Calibration, curve}
use Rattle.promises.proofs.Names.{CalibrationAt, contents-accepted, position, fraction, least, greatest}
use lib.Pow.{pow_pos}
use lib.IntN.{negsuc}
use lib.Ieee.{low, div, unlike, round}
use lib.Ieee.Exact.{HasValue}
use lib.Ieee.Fits.{of_int-fits, fits_widens}
use lib.Ieee.Scale.{finite as is_finite, grid}
use Rattle.figures.proofs.FigureLaws.{is-finite, value-real}
use Rattle.figures.proofs.Operations.{is_negative, whole_is, div_value, round-value, in-units}
use Rattle.figures.proofs.Sizes.{grid-most}
use Rattle.figures.proofs.Zeros.{Alike, Alike.same as same, Alike.zeros as zeros, zero-times, mul-alike, zero-plus-zero, add-alike, plus-alike, zero-plus-held, grid-some}
use Rattle.layout.specs.Contents.{nothing_passed}
use Rattle.promises.specs.Curves.{up_to_the_fifth, FromTheFifth}
use Rattle.promises.proofs.CurveFigures.{zeroed, Ends, serve, all-serve}
use Rattle.promises.proofs.Figures.{taken}

zeroed-value : HasValue zeroed false 0 1
zeroed-value = whole_is binary64 (pos 0) (lit≤ tt)

-- ---- the nested rule

-- Numbers of the format f64.
abbrev Held : List Float → Type 0
Held [] = Unit {0}
Held (c ∷ cs) = T (fits binary64 c) × T (is_finite c) × Held cs

module _ (x : Float) (s : Bool) (a d : ℕ) (some : 0 < d) (value : HasValue x s a d) where
  zeros-nested : (k : ℕ) → (t : Bool) × HasValue (nested x (zeroed ∷ replicate k zeroed)) t 0 1
  unfolding nested
  zeros-nested zero = (false, zeroed-value)
  zeros-nested (suc k) =
      let (t, h) = zeros-nested k in
      let y = nested x (zeroed ∷ replicate k zeroed) in
      (unlike t s && false, zero-plus-zero binary64 (mul binary64 y x) zeroed (unlike t s) false 1 (omega arith) (zero-times binary64 x s a d some value y t h) zeroed-value)

  padded : (c : Float) (cs : List Float) (k : ℕ) → Held (c ∷ cs) → Alike (nested x ((c ∷ cs) ++ replicate k zeroed)) (nested x (c ∷ cs))
  unfolding nested
  padded c [] zero h = same refl
  padded c [] (suc k) h =
      let (t, z) = zeros-nested k in
      let y = nested x (zeroed ∷ replicate k zeroed) in
      zero-plus-held binary64 (mul binary64 y x) c (unlike t s) (zero-times binary64 x s a d some value y t z) h.0 h.1
  padded c (e ∷ cs) k h =
      let u = in-units binary64 c h.0 h.1 in
      add-alike binary64 _ _ c u.negative u.count (2 ^ low binary64) (pow_pos (low binary64)) u.value
      (mul-alike binary64 x s a d some value _ _ (padded e cs k h.2))

  all-padded : (cs : List Float) (k : ℕ) → Held cs → Alike (nested x (cs ++ replicate k zeroed)) (nested x cs)
  unfolding nested
  all-padded [] zero h = same refl
  all-padded [] (suc k) h = let (t, z) = zeros-nested k in zeros t false z zeroed-value
  all-padded (c ∷ cs) k h = padded c cs k h

-- ---- a curve's coefficients

held-append : (a b : List Float) → Held a → Held b → Held (a ++ b)
held-append [] b h k = k
held-append (c ∷ a) b h k = (h.0, h.1, held-append a b h.2 k)

held-zeros : (n : ℕ) → Held (replicate n zeroed)
held-zeros zero = tt
held-zeros (suc n) = (of_int-fits binary64 (pos 0), value-real zeroed false 0 1 zeroed-value, held-zeros n)

all_held : (power : ℕ) (terms : List Term) → Ends terms → Held (coefficients power terms)
unfolding coefficients
all_held power [] h = tt
all_held power (t ∷ terms) h =
    held-append (replicate (nat_abs t.exponent - power) zeroed) _ (held-zeros (nat_abs t.exponent - power))
    (fits_widens t.coefficient h.0.single, is-finite t.coefficient h.0.finite, all_held (suc (nat_abs t.exponent)) terms h.1)

-- ---- the argument is never −0

record Plain (x : Float) : Type 0 where
  negative : Bool
  count : ℕ
  value : HasValue x negative count (2 ^ low binary64)
  plus : count ≡ 0 → negative ≡ false

-- K of a unit are 1.
below : (g K n most c top : ℕ) → g * c ≤ n * K * 2 + c → 0 < c → n ≤ most → most * K * 2 + c < top → g < top
below g K n most c top h some l room = omega (arith, le-mul_of_pos_right g some, h, mul-le-mul_right (K * 2) l, room)

above : (K n c : ℕ) → c < 1 * K * 2 → c < suc n * 1 * K * 2
above K n c h = omega (arith, h, mul-le-mul_right {m = 1} {n = suc n} (K * 2) (omega arith))

room : (n : ℕ) → n ≤ 2 ^ 31 → grid binary64 (n * 1) (1 * 10_000_000) < overflow binary64
room n h =
    below (grid binary64 (n * 1) (1 * 10_000_000)) (2 ^ low binary64) (n * 1) (2 ^ 31) (1 * 10_000_000) (overflow binary64) (grid-most binary64 (n * 1) (1 * 10_000_000) (lit≤ tt)) (lit≤ tt)
    (omega (arith, h)) (lit≤ tt)

argument-plain : (p : ℤ) → nat_abs p ≤ 2 ^ 31 → Plain (argument p)
unfolding argument
argument-plain p h =
    record {
      negative = unlike (is_negative p) false;
      count = grid binary64 (nat_abs p * 1) (1 * 10_000_000);
      value = subst (λ (z : Float). HasValue z (unlike (is_negative p) false) (grid binary64 (nat_abs p * 1) (1 * 10_000_000)) (2 ^ low binary64)) (sym is) (round-value binary64 (unlike (is_negative p) false) (nat_abs p * 1) (1 * 10_000_000) (room (nat_abs p) h));
      plus = sign p;
    }
  where
    is : div binary64 (of_int binary64 p) (of_int binary64 (pos 10_000_000)) ≡ round binary64 (unlike (is_negative p) false) (nat_abs p * 1) (1 * 10_000_000)
    is =
        div_value binary64 (is_negative p) false (nat_abs p) 1 10_000_000 1 (omega arith) (omega arith) (of_int binary64 p) (of_int binary64 (pos 10_000_000)) (omega arith)
        (whole_is binary64 p (omega (arith, h))) (whole_is binary64 (pos 10_000_000) (lit≤ tt))

    sign : (p : ℤ) → grid binary64 (nat_abs p * 1) (1 * 10_000_000) ≡ 0 → unlike (is_negative p) false ≡ false
    sign (pos n) e = refl
    sign (negsuc n) e = absurd (grid-some binary64 (suc n * 1) (1 * 10_000_000) (lit≤ tt) (above (2 ^ low binary64) n (1 * 10_000_000) (lit≤ tt)) e)

-- ---- the fraction

fifth : (terms : List Term) (p : ℤ) → Ends terms → nat_abs p ≤ 2 ^ 31 → fraction_by (up_to_the_fifth terms) p ≡ fraction_of terms p
unfolding fraction_by
fifth terms p ends h =
    let x = argument-plain p h in
    let own = coefficients 0 terms in
    ap (λ (y : Float). div binary64 y (of_int binary64 (pos 100)))
    (plus-alike binary64 (argument p) (nested (argument p) (up_to_the_fifth terms)) (nested (argument p) own) x.negative x.count (2 ^ low binary64) (pow_pos (low binary64)) x.value x.plus
    (all-padded (argument p) x.negative x.count (2 ^ low binary64) (pow_pos (low binary64)) x.value own (6 - length own) (all_held 0 terms ends)))

pub from-the-fifth : FromTheFifth
from-the-fifth kind image c segments v dash r accepted e reads =
    let t = taken kind image c v dash r accepted reads in
    let p = position v (least c) (greatest c) in
    let q : r.fraction ≡ p = t.counts ∙ ap (λ (k : Calibration). fraction k p) e in
    let h : CalibrationAt _ (curve segments) = subst (CalibrationAt _) e (contents-accepted kind image c accepted).holding.formed.calibrated in
    let s = serve p segments (all-serve nothing_passed _ segments h.stand) in
    rw q (fifth (serving_terms p segments) p s.ends t.near)
