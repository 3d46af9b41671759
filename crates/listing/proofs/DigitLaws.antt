-- Laws of decimal digits and the number that they form.
use Rattle.listing.proofs.Names.{◌≡◌, refl, sym, ap, ◌∙◌, List, [], ◌∷◌, ◌++◌, append_assoc, append-nil, ℕ, zero, suc, ◌+◌, ◌-◌, ◌*◌, ◌/◌, ◌%◌, ◌^◌, ◌<◌, ◌≤◌, pow-zero, mul_assoc, add-mul, mul_right_comm}
use Rattle.listing.proofs.Names.{mul-le-mul, mul-le-mul_left, mul-one, one-le-pow, mod-eq_of_lt, add-mul-mod_self_right, mod-add-div', mod-one, add-one, arith, pow_step, mod-mul, length, take, drop, get_or, set}
use Rattle.listing.proofs.Names.{length-set, drop_of_length-le, drop-cons, take_all, take-suc-set, drop-set-lt, Digits, number, Becomes}

-- The first digits and, above them, the rest.
pub number-split : (l : List ℕ) (i : ℕ) → number l ≡ number (take i l) + number (drop i l) * 10 ^ i
number-split l zero = omega arith
number-split [] (suc i) = omega arith
number-split (d ∷ l) (suc i) =
    let e : number (drop i l) * 10 ^ suc i ≡ 10 * (number (drop i l) * 10 ^ i) = rw (pow_step 10 i) (let m : number (drop i l) * (10 * 10 ^ i) ≡ 10 * (number (drop i l) * 10 ^ i) = omega (arith, mul_assoc (number (drop i l)) 10 (10 ^ i), mul_right_comm (number (drop i l)) 10 (10 ^ i)) in m) in
    omega (arith, number-split l i)

-- One more digit.
pub number_more : (l : List ℕ) (i : ℕ) → number (take (suc i) l) ≡ number (take i l) + 10 ^ i * get_or l i 0
number_more [] zero = refl
number_more [] (suc i) = omega arith
number_more (d ∷ l) zero = omega arith
number_more (d ∷ l) (suc i) =
    let e : 10 ^ suc i * get_or l i 0 ≡ 10 * (10 ^ i * get_or l i 0) = rw (pow_step 10 i) (mul_assoc 10 (10 ^ i) (get_or l i 0)) in
    omega (arith, number_more l i)

pub number_lt : (l : List ℕ) (i : ℕ) → Digits l → number (take i l) < 10 ^ i
number_lt l zero h = omega arith
number_lt l (suc i) h =
    let d : get_or l i 0 ≤ 9 = omega (arith, h i) in
    let p : 10 ^ i * get_or l i 0 ≤ 10 ^ i * 9 = mul-le-mul_left (10 ^ i) d in
    omega (arith, number_more l i, pow_step 10 i, number_lt l i h)

-- ---- times a number, and more

pub product_small : (d b : ℕ) → d < 256 → b ≤ 5 → d * b ≤ 1275
product_small d b h k = mul-le-mul {n₁ = d} {m₁ = b} {n₂ = 255} {m₂ = 5} (omega arith) k

-- The digits of `by` times a number, plus a carry, digit by digit.
abbrev pub scaled : ℕ → ℕ → List ℕ → List ℕ
scaled by carry [] = []
scaled by carry (d ∷ digits) = (d * by + carry) % 10 ∷ scaled by ((d * by + carry) / 10) digits

-- The state of the loop: the digits done, and the rest with the carry, give the whole product.
pub record Turned (a b : List ℕ) (by more carry at : ℕ) : Type 0 where
  pub long : length b ≡ length a
  pub small : carry < 16_777_216
  pub equal : take at b ++ scaled by carry (drop at b) ≡ scaled by more a

module _ (a b : List ℕ) (by more carry at g : ℕ) (hb : by ≤ 5) (hg : g ≡ get_or b at 0) (hw : g < 256) (h : at < length b) (t : Turned a b by more carry at) where
  pub turn : Turned a (set b at ((g * by + carry) % 10)) by more ((g * by + carry) / 10) (at + 1)
  turn =
      record {
        long = length-set b at ((g * by + carry) % 10) ∙ t.long;
        small = omega (arith, product_small g by hw hb, t.small);
        equal = rw (add-one at, take-suc-set b at ((g * by + carry) % 10) h, drop-set-lt (suc at) b at ((g * by + carry) % 10) (omega arith), append_assoc)
            (rw (drop-cons b at 0 h, ← hg) at t.equal);
      }

-- ---- the number of the product

scaled-long : (by carry : ℕ) (l : List ℕ) → length (scaled by carry l) ≡ length l
scaled-long by carry [] = refl
scaled-long by carry (d ∷ l) = ap suc (scaled-long by ((d * by + carry) / 10) l)

scaled-digits : (by carry : ℕ) (l : List ℕ) → Digits (scaled by carry l)
scaled-digits by carry [] k = omega arith
scaled-digits by carry (d ∷ l) zero = omega arith
scaled-digits by carry (d ∷ l) (suc k) = scaled-digits by ((d * by + carry) / 10) l k

scaled-equal : (by carry : ℕ) (l : List ℕ) → number (scaled by carry l) ≡ (number l * by + carry) % 10 ^ length l
scaled-equal by carry [] = sym (mod-one (0 * by + carry))
scaled-equal by carry (d ∷ l) =
    let s = d * by + carry in
    let n = (number l * 10 + d) * by + carry in
    let e : n ≡ number l * by * 10 + s = omega (arith, add-mul (number l * 10) d by, mul_right_comm (number l) 10 by) in
    let q : n / 10 ≡ number l * by + s / 10 = omega arith in
    let r : n % 10 ≡ s % 10 = omega arith in
    let w : 10 ^ suc (length l) ≡ 10 ^ length l * 10 = omega (arith, pow_step 10 (length l)) in
    rw (w, mod-mul n {m = 10 ^ length l} {c = 10} (one-le-pow (length l) 10 (omega arith)) (omega arith), q, r, scaled-equal by (s / 10) l)

pub turned : (a b : List ℕ) (by more carry at : ℕ) → length b ≤ at → Turned a b by more carry at → Becomes a b (number a * by + more)
turned a b by more carry at h t =
    let e : b ≡ scaled by more a = sym (append-nil b) ∙ rw (drop_of_length-le b h, take_all at b h) at t.equal in
    rw e (record { long = scaled-long by more a; digits = scaled-digits by more a; equal = scaled-equal by more a })

-- ---- repeated multiplication

mod_times : (x y P : ℕ) → x % P * y % P ≡ x * y % P
mod_times x y P =
    let e : x * y ≡ x % P * y + x / P * y * P = sym (ap (λ (z : ℕ). z * y) (mod-add-div' x P)) ∙ add-mul (x % P) (x / P * P) y ∙ ap (λ (z : ℕ). x % P * y + z) (mul_right_comm (x / P) P y) in
    rw (e, add-mul-mod_self_right)

-- The state of the loop: the number, times `by` for each turn left, is the result.
pub record Raised (a b : List ℕ) (by N left : ℕ) : Type 0 where
  pub long : length b ≡ length a
  pub digits : Digits b
  pub equal : number b * by ^ left % 10 ^ length a ≡ N % 10 ^ length a

pub raise-turn : (a b d : List ℕ) (by N left : ℕ) → Raised a b by N left → 0 < left → Becomes b d (number b * by + 0) → Raised a d by N (left - 1)
raise-turn a b d by N left r h s =
    let w : by ^ left ≡ by * by ^ (left - 1) = ap (λ (x : ℕ). by ^ x) (let i : left ≡ suc (left - 1) = omega arith in i) ∙ pow_step by (left - 1) in
    let z : number b * by + 0 ≡ number b * by = omega arith in
    record {
      long = s.long ∙ r.long;
      digits = s.digits;
      equal = rw (rw (r.long, z) at s.equal) (mod_times (number b * by) (by ^ (left - 1)) (10 ^ length a) ∙ rw (mul_assoc, ← w) r.equal);
    }

pub raised : (a b : List ℕ) (by N left : ℕ) → Raised a b by N left → left ≡ 0 → Becomes a b N
raised a b by N left r z =
    let n : number b < 10 ^ length a = rw (take_all (length a) b (omega (arith, r.long))) at (number_lt b (length a) r.digits) in
    record { long = r.long; digits = r.digits; equal = sym (mod-eq_of_lt n) ∙ rw (z, pow-zero, mul-one) at r.equal }

-- The digits of m become those of m times 2s and 5s.
pub raised-twice : (a b d e : List ℕ) (m x y : ℕ) → Becomes a b (number a * 0 + m) → Becomes b d (number b * x) → Becomes d e (number d * y) → m * x * y < 10 ^ length a → number e ≡ m * x * y
raised-twice a b d e m x y s t u h =
    let P = 10 ^ length a in
    let z : number a * 0 + m ≡ m = omega arith in
    let f : number d ≡ m * x % P = rw (s.long, rw z at s.equal) at t.equal ∙ mod_times m x P in
    rw (t.long ∙ s.long, f) at u.equal ∙ mod_times (m * x) y P ∙ mod-eq_of_lt h
