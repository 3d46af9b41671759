-- Laws of rounding to seven digits.
use Rattle.listing.proofs.Names.{◌≡◌, refl, sym, ap, ◌∙◌, Bool, true, false, cond, List, [], ◌∷◌, ℕ, zero, suc, ◌+◌, ◌-◌, ◌*◌, ◌/◌, ◌%◌, ◌^◌, ◌<◌, ◌≤◌, mul_assoc, mul_left_comm, mul-le-mul, mul-le-mul_left}
use Rattle.listing.proofs.Names.{one-le-pow, pow-le-pow_right, lt_of_le_of_lt, add-mul-div_right, div-eq_of_lt, add-mul-mod_self_right, mod-eq_of_lt, mul-div_cancel_left, dec_lt, add-one, arith, pow_step, ltb-true}
use Rattle.listing.proofs.Names.{ltb-false, lt-ltb, le-ltb, eq-eqb, ne_eqb, pow-add, eqb, ltb, ltb→lt, length, take, drop, get_or, drop-cons, Digits, number, Becomes, Highest, upward, Rounds, exact}
use Rattle.listing.proofs.DigitLaws.{number-split, number_more, number_lt, raised-twice}

-- One more digit, from above.
pub digit-below : (l : List ℕ) (at : ℕ) → 0 < at → at ≤ length l → number (drop at l) * 10 + get_or l (at - 1) 0 ≡ number (drop (at - 1) l)
digit-below l at h k =
    let e : suc (at - 1) ≡ at = omega arith in
    sym (ap number (drop-cons l (at - 1) 0 (omega arith) ∙ ap (λ (x : ℕ). get_or l (at - 1) 0 ∷ drop x l) e))

pub some_below : (l : List ℕ) (i end : ℕ) → i < end → 1 ≤ get_or l i 0 → 1 ≤ number (take end l)
some_below [] i end h k = absurd (omega arith)
some_below (d ∷ l) zero (suc end) h k = omega arith
some_below (d ∷ l) (suc i) (suc end) h k = omega (arith, some_below l i end (omega arith) k)
some_below (d ∷ l) i zero h k = absurd (omega arith)

pub still-none : (l : List ℕ) (i : ℕ) → number (take i l) ≡ 0 → get_or l i 0 ≡ 0 → number (take (i + 1) l) ≡ 0
still-none l i h k =
    let z : 10 ^ i * get_or l i 0 ≡ 10 ^ i * 0 = ap (λ (x : ℕ). 10 ^ i * x) k in
    rw (add-one i) (omega (arith, number_more l i))

-- Zeros at the end of n.
pub one_up : (n up : ℕ) → n % 10 ≡ 0 → n / 10 * 10 ^ (up + 1) ≡ n * 10 ^ up
one_up n up h =
    let e : n / 10 * 10 ≡ n = omega arith in
    rw (add-one up, pow_step 10 up) (sym (mul_assoc (n / 10) 10 (10 ^ up)) ∙ ap (λ (x : ℕ). x * 10 ^ up) e)

-- ---- whether n rounds up

upward-above : (below unit n : ℕ) → unit < 2 * below → upward below unit n ≡ true
upward-above below unit n h = rw (ne_eqb (2 * below) unit (λ e. omega arith), lt-ltb unit (2 * below) h)

upward-below : (below unit n : ℕ) → 2 * below < unit → upward below unit n ≡ false
upward-below below unit n h = rw (ne_eqb (2 * below) unit (λ e. omega arith), le-ltb unit (2 * below) (omega arith))

-- Whether n rounds up, by the digit d below n, if the digits below d are y of the unit P.
by-digit : (y d P n : ℕ) → y < P → (d ≡ 5 → ⊥) → ltb 5 d ≡ upward (y + P * d) (10 * P) n
by-digit y d P n h ne = go (dec_lt 5 d)
  where
    go : Dec (5 < d) → ltb 5 d ≡ upward (y + P * d) (10 * P) n
    go (yes g) = lt-ltb 5 d g ∙ sym (upward-above (y + P * d) (10 * P) n (omega (arith, mul-le-mul_left {m = 6} {n = d} P g)))
    go (no g) = le-ltb 5 d (omega arith) ∙ sym (upward-below (y + P * d) (10 * P) n (omega (arith, mul-le-mul_left {m = d} {n = 4} P (omega arith))))

module _ (l : List ℕ) (up n : ℕ) (h : Digits l) (hu : 1 ≤ up) where
  before : up ≡ suc (up - 1)
  before = omega arith

  -- The digits below n are the one right below it and the rest.
  parts : (b : Bool) → b ≡ upward (number (take (up - 1) l) + 10 ^ (up - 1) * get_or l (up - 1) 0) (10 * 10 ^ (up - 1)) n → b ≡ upward (number (take up l)) (10 ^ up) n
  parts b e = rw (before) (rw (number_more l (up - 1), pow_step 10 (up - 1)) e)

  pub not_five : (get_or l (up - 1) 0 ≡ 5 → ⊥) → ltb 5 (get_or l (up - 1) 0) ≡ upward (number (take up l)) (10 ^ up) n
  not_five ne = parts _ (by-digit _ _ (10 ^ (up - 1)) n (number_lt l (up - 1) h) ne)

  pub five-and-more : get_or l (up - 1) 0 ≡ 5 → ltb 0 (number (take (up - 1) l)) ≡ true → true ≡ upward (number (take up l)) (10 ^ up) n
  five-and-more e t = parts _ (rw e (sym (upward-above (number (take (up - 1) l) + 10 ^ (up - 1) * 5) (10 * 10 ^ (up - 1)) n (omega (arith, ltb-true 0 (number (take (up - 1) l)) t)))))

  pub five-alone : get_or l (up - 1) 0 ≡ 5 → ltb 0 (number (take (up - 1) l)) ≡ false → eqb (n % 2) 1 ≡ upward (number (take up l)) (10 ^ up) n
  five-alone e t =
      let z : 2 * (number (take (up - 1) l) + 10 ^ (up - 1) * 5) ≡ 10 * 10 ^ (up - 1) = omega (arith, ltb-false 0 (number (take (up - 1) l)) t) in
      parts _ (rw (e, eq-eqb _ _ z))

-- ---- the nearest

module _ (l : List ℕ) (n up : ℕ) (h : Digits l) (t : Highest l n up) where
  unit : 0 < 10 ^ up
  unit = one-le-pow up 10 (omega arith)

  quotient : number l / 10 ^ up ≡ n
  quotient = rw (number-split l up, ← t.is, add-mul-div_right (number (take up l)) n unit, div-eq_of_lt (number_lt l up h)) (omega arith)

  remainder : number l % 10 ^ up ≡ number (take up l)
  remainder = rw (number-split l up, add-mul-mod_self_right) (mod-eq_of_lt (number_lt l up h))

  pub rounds : (b : Bool) → b ≡ upward (number (take up l)) (10 ^ up) n → Rounds (number l) (cond b (n + 1) n) up
  rounds b e =
      record {
        seven = rw quotient t.seven;
        least = λ k. rw quotient (t.least k);
        nearest = rw (remainder, quotient, ← e);
      }

-- ---- a Single's digits

fives : (k : ℕ) → 2 ^ k * 5 ^ k ≡ 10 ^ k
fives zero = refl
fives (suc k) = rw (pow_step 5 k, pow_step 2 k, pow_step 10 k, ← fives k)
    (mul_assoc 2 (2 ^ k) (5 * 5 ^ k) ∙ ap (λ (x : ℕ). 2 * x) (mul_left_comm (2 ^ k) 5 (5 ^ k)) ∙ sym (mul_assoc 2 5 (2 ^ k * 5 ^ k)))

regroup : (m a b c t j : ℕ) → a * b ≡ t * j → m * a * (b * c) ≡ t * (m * j * c)
regroup m a b c t j e =
    mul_assoc m a (b * c) ∙ ap (λ (x : ℕ). m * x) (sym (mul_assoc a b c) ∙ ap (λ (x : ℕ). x * c) e ∙ mul_assoc t j c) ∙ mul_left_comm m t (j * c) ∙ ap (λ (x : ℕ). t * x) (sym (mul_assoc m j c))

-- The factors 2 and 5 that the digits are multiplied by.
exact-is : (m p : ℕ) → exact m p ≡ m * 2 ^ (p - 149) * 5 ^ (149 - p)
exact-is m p =
    let i : p + (149 - p) ≡ 149 + (p - 149) = omega arith in
    let e : 2 ^ p * 2 ^ (149 - p) ≡ 2 ^ 149 * 2 ^ (p - 149) = sym (pow-add 2 p (149 - p)) ∙ ap (λ (x : ℕ). 2 ^ x) i ∙ pow-add 2 149 (p - 149) in
    rw (← fives (149 - p), regroup m (2 ^ p) (2 ^ (149 - p)) (5 ^ (149 - p)) (2 ^ 149) (2 ^ (p - 149)) e) (mul-div_cancel_left (m * 2 ^ (p - 149) * 5 ^ (149 - p)) (one-le-pow 149 2 (omega arith)))

-- 144 places are enough.
exact-fits : (m p : ℕ) → m < 16_777_216 → p < 256 → m * 2 ^ (p - 149) * 5 ^ (149 - p) < 10 ^ 144
exact-fits m p hm hp =
    lt_of_le_of_lt
    (mul-le-mul {n₁ = m * 2 ^ (p - 149)} {m₁ = 5 ^ (149 - p)} {n₂ = 16_777_216 * 2 ^ 107} {m₂ = 5 ^ 149}
    (mul-le-mul {n₁ = m} {m₁ = 2 ^ (p - 149)} {n₂ = 16_777_216} {m₂ = 2 ^ 107} (omega arith) (pow-le-pow_right {n = 2} (omega arith) {i = p - 149} {j = 107} (omega arith)))
    (pow-le-pow_right {n = 5} (omega arith) {i = 149 - p} {j = 149} (omega arith)))
    (ltb→lt (16_777_216 * 2 ^ 107 * 5 ^ 149) (10 ^ 144) tt)

pub digits_of : (a b d e : List ℕ) (m p j k : ℕ) → length a ≡ 144 → m < 16_777_216 → p < 256 → j ≡ p - 149 → k ≡ 149 - p
    → Becomes a b (number a * 0 + m) → Becomes b d (number b * 2 ^ j) → Becomes d e (number d * 5 ^ k) → number e ≡ exact m p
digits_of a b d e m p j k n hm hp hj hk s t u =
    raised-twice a b d e m (2 ^ j) (5 ^ k) s t u (rw (hj, hk, n) (exact-fits m p hm hp)) ∙ rw (hj, hk) (sym (exact-is m p))
