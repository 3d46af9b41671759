-- Laws of a number's digits in decimal, as `io` prints them: the fewest that hold it.
use Rattle.tray_report.proofs.Names.{◌≡◌, refl, ap, ◌∙◌, List, [], ◌∷◌, ℕ, zero, suc, ◌-◌, ◌*◌, ◌/◌, ◌%◌, ◌^◌, ◌≤◌, ◌<◌, pow-suc, pow-le-pow_right, dec_lt, unary_clauses, arith, lt-ltb, le-ltb, length}
use Rattle.tray_report.proofs.Names.{length-append, hex_digit_ascii, last_digits, IsDigitCount, digits_up_to, decimal}

pub digits-count : (k n : ℕ) → length (last_digits 10 k n) ≡ k
digits-count zero n = refl
digits-count (suc k) n = omega (arith, length-append (last_digits 10 k (n / 10)) (hex_digit_ascii (n % 10) ∷ []), digits-count k (n / 10))

below_power : (k : ℕ) → k < 10 ^ k
below_power zero = omega arith
below_power (suc k) = omega (arith, below_power k, pow-suc 10 k)

up_to : (most k n : ℕ) → IsDigitCount 10 1 n k → k ≤ most → last_digits 10 k n ≡ digits_up_to most n
unfolding digits_up_to
up_to most zero n f l = absurd (omega arith)
up_to zero (suc k) n f l = absurd (omega arith)
up_to (suc most) (suc zero) n f l = rw (lt-ltb n 10 f.1, lt-ltb (n % 10) 10 (omega arith))
up_to (suc most) (suc (suc k)) n f l =
    let p = pow-suc 10 k in
    let q = pow-suc 10 (suc k) in
    let big : 10 ^ k * 10 ≤ n = simp unary_clauses at (f.2 (omega arith)) in
    let small : n < 10 ^ suc (suc k) = f.1 in
    let fewer : IsDigitCount 10 1 (n / 10) (suc k) = (omega arith, omega arith, λ _. simp unary_clauses (omega arith)) in
    let ten : 10 ≤ n = omega (arith, below_power k) in
    rw (le-ltb n 10 ten, lt-ltb (n % 10) 10 (omega arith), up_to most (suc k) (n / 10) fewer (omega arith))

pub fewest-decimal : (k n : ℕ) → IsDigitCount 10 1 n k → last_digits 10 k n ≡ decimal n
fewest-decimal zero n f = up_to (suc n) zero n f (omega arith)
fewest-decimal (suc zero) n f = up_to (suc n) (suc zero) n f (omega arith)
fewest-decimal (suc (suc k)) n f =
    let big : 10 ^ k * 10 ≤ n = simp unary_clauses at (f.2 (omega arith)) in
    up_to (suc n) (suc (suc k)) n f (omega (arith, below_power k))

-- A number of 64 bits has at most 20 digits.
few-digits : (k n : ℕ) → IsDigitCount 10 1 n k → n < 2 ^ 64 → k ≤ 20
few-digits k n f h = go (dec_lt 20 k)
  where
    go : Dec (20 < k) → k ≤ 20
    go (yes l) =
        let p : 10 ^ 20 ≤ 10 ^ (k - 1) = pow-le-pow_right (omega arith) {i = 20} {j = k - 1} (omega arith) in
        absurd (omega (arith, f.2 (omega arith)))
    go (no l) = omega arith

pub spelt-decimal : (k n : ℕ) {text : List ℕ} → IsDigitCount 10 1 n k → n < 2 ^ 64 → text ≡ last_digits 10 k n → (text ≡ decimal n) × (length text ≤ 20)
spelt-decimal k n f h e = (e ∙ fewest-decimal k n f, omega (arith, ap length e, digits-count k n, few-digits k n f h))
