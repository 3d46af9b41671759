-- Laws of the exact value of a Single's bits, a number of units of 2^−149. Without the sign
-- bit, patterns are ordered as these numbers, so one comparison finds those from −2 to 2.
use Rattle.codes.proofs.Names.{◌≡◌, ap, ◌∙◌, subst, Bool, true, false, ◌⊎◌, inl, inr, ℕ, zero, suc, ◌+◌, ◌-◌, ◌*◌, ◌/◌, ◌%◌, ◌^◌, ◌≤◌, ◌<◌, eq-or-lt_of_le, le_of_eq, le_of_lt, le_trans, lt_of_lt_of_le}
use Rattle.codes.proofs.Names.{mul-le-mul_right, mul-lt-mul_of_pos_right, lt_of_mul-lt-mul_right, arith, ne_eqb, T, leb, pos, neg_ℤ, ◌*ℤ◌, pow-add, pow_pos, pow_mono, shl_lt, Float, nan, inf, fin, binary32, fits}
use Rattle.codes.proofs.Names.{of_fields, of_bits, to_bits, above, below, of_bits-to_bits, HasValue, odd_sign, down_pos, up_neg, dn-neg, lt-lt_z, le-lt_z, finite, outside, signed, outside_two}
use Rattle.codes.proofs.FloatLaws.{not-finite-bits}

-- The size of a finite Single with exponent field x and digits t, in units of 2^−149.
abbrev pub size : ℕ → ℕ → ℕ
size zero t = t * 2 ^ 0
size (suc x) t = (2 ^ 23 + t) * 2 ^ x

fields_value : (s : Bool) (x t : ℕ) → x < 255 → HasValue (of_fields binary32 s x t) s (size x t) (2 ^ 149)
unfolding of_fields
fields_value s zero t h = odd_sign 24 s t 0 149
fields_value s (suc x) t h = rw (ne_eqb (suc x) 255 (λ e. omega arith)) (odd_sign 24 s (2 ^ 23 + t) x 149)

pub bits-value : (b : ℕ) → b % 2 ^ 31 < 0x7f80_0000 → HasValue (of_bits binary32 b) (leb (2 ^ 31) b) (size (b % 2 ^ 31 / 2 ^ 23) (b % 2 ^ 23)) (2 ^ 149)
unfolding of_bits
bits-value b h = fields_value (leb (2 ^ 31) b) (b % 2 ^ 31 / 2 ^ 23) (b % 2 ^ 23) (omega arith)

-- With a leading digit, the digits over a power of two: both sides have the factor 2^(x − 1).
pub size-digits : (x t : ℕ) → 0 < x → size x t ≡ (2 ^ 23 + t) * 2 ^ (x - 1)
size-digits zero t h = absurd (omega arith)
size-digits (suc x) t h = ap (λ (k : ℕ). (2 ^ 23 + t) * 2 ^ k) (omega arith)

pub unit-digits : (x : ℕ) → 0 < x → x ≤ 150 → 2 ^ 149 ≡ 2 ^ (150 - x) * 2 ^ (x - 1)
unit-digits x h l = ap (λ (k : ℕ). 2 ^ k) {x = 149} {y = 150 - x + (x - 1)} (omega arith) ∙ pow-add 2 (150 - x) (x - 1)

-- ---- the order of patterns is the order of sizes

size-lt : (x t : ℕ) → t < 2 ^ 23 → size x t < 2 ^ (23 + x)
size-lt zero t l = omega arith
size-lt (suc x) t l = subst (λ (k : ℕ). (2 ^ 23 + t) * 2 ^ x < 2 ^ k) {x = 24 + x} {y = 23 + suc x} (omega arith) (shl_lt {a = 2 ^ 23 + t} 24 x (omega arith))

size-ge : (x y u : ℕ) → x < y → 2 ^ (23 + x) ≤ size y u
size-ge x zero u h = absurd (omega arith)
size-ge x (suc y) u h = le_trans (pow_mono {i = 23 + x} {j = 23 + y} (omega arith)) (le_trans (le_of_eq (pow-add 2 23 y)) (mul-le-mul_right (2 ^ y) (omega arith)))

same-field : (x t u : ℕ) → t < u → size x t < size x u
same-field zero t u h = omega arith
same-field (suc x) t u h = let l : 2 ^ 23 + t < 2 ^ 23 + u = omega arith in mul-lt-mul_of_pos_right l (pow_pos x)

pub sizes-rise : (x t y u : ℕ) → t < 2 ^ 23 → u < 2 ^ 23 → x * 2 ^ 23 + t < y * 2 ^ 23 + u → size x t < size y u
sizes-rise x t y u ht hu h = go (eq-or-lt_of_le {n = x} {m = y} (omega arith))
  where
    go : (x ≡ y) ⊎ (x < y) → size x t < size y u
    go (inl e) = subst (λ (k : ℕ). size x t < size k u) e (same-field x t u (omega arith))
    go (inr l) = lt_of_lt_of_le (size-lt x t ht) (size-ge x y u l)

-- ---- outside −2 to 2

module _ (p d : ℕ) where
  twice-far : (s : Bool) → 2 * d < p → outside (neg_ℤ (pos 2) *ℤ pos d) (pos 2 *ℤ pos d) (signed s p) ≡ true
  twice-far true h = rw (lt-lt_z (neg_ℤ (pos p)) (neg_ℤ (pos (2 * d))) (omega (arith, up_neg (pos p), dn-neg (pos p), up_neg (pos (2 * d)), dn-neg (pos (2 * d)))))
  twice-far false h = rw (le-lt_z (pos p) (neg_ℤ (pos (2 * d))) (omega (arith, up_neg (pos (2 * d)), dn-neg (pos (2 * d)))), lt-lt_z (pos (2 * d)) (pos p) (omega arith))

  twice-near : (s : Bool) → p ≤ 2 * d → outside (neg_ℤ (pos 2) *ℤ pos d) (pos 2 *ℤ pos d) (signed s p) ≡ false
  twice-near true h = rw (le-lt_z (neg_ℤ (pos p)) (neg_ℤ (pos (2 * d))) (omega (arith, up_neg (pos p), dn-neg (pos p), up_neg (pos (2 * d)), dn-neg (pos (2 * d)))), le-lt_z (pos (2 * d)) (neg_ℤ (pos p)) (omega (arith, up_neg (pos p), dn-neg (pos p))))
  twice-near false h = rw (le-lt_z (pos p) (neg_ℤ (pos (2 * d))) (omega (arith, up_neg (pos (2 * d)), dn-neg (pos (2 * d)))), le-lt_z (pos (2 * d)) (pos p) (omega arith))

-- Outside or inside, by any fraction a / u that is the number without its sign.
value-far : (v : Float) (s : Bool) (a u : ℕ) → HasValue v s a u → 2 * u < a → outside_two v ≡ true
unfolding outside_two
value-far nan s a u h l = absurd h
value-far (inf t) s a u h l = absurd h
value-far (fin t m e) s a u h l = twice-far (m * above e) (below e) t (lt_of_mul-lt-mul_right u (omega (arith, h.1, mul-lt-mul_of_pos_right l (down_pos e))))

value-near : (v : Float) (s : Bool) (a u : ℕ) → 0 < u → HasValue v s a u → a ≤ 2 * u → outside_two v ≡ false
unfolding outside_two
value-near nan s a u some h l = absurd h
value-near (inf t) s a u some h l = absurd h
value-near (fin t m e) s a u some h l = twice-near (m * above e) (below e) t (omega (arith, less))
  where
    less : m * above e < 2 * below e + 1
    less = lt_of_mul-lt-mul_right u (omega (arith, h.1, mul-le-mul_right (below e) l))

-- An infinity or a NaN is outside.
pub not-finite-far : (x : Float) → finite x ≡ false → outside_two x ≡ true
unfolding outside_two
not-finite-far x h = rw h

-- 2 has the pattern 2^30: exponent field 128 and no digits.
far-bits : (b : ℕ) → 2 ^ 30 < b % 2 ^ 31 → outside_two (of_bits binary32 b) ≡ true
far-bits b h = go (eq-or-lt_of_le {n = b % 2 ^ 31 / 2 ^ 23} {m = 255} (omega arith))
  where
    go : (b % 2 ^ 31 / 2 ^ 23 ≡ 255) ⊎ (b % 2 ^ 31 / 2 ^ 23 < 255) → outside_two (of_bits binary32 b) ≡ true
    go (inl e) = not-finite-far (of_bits binary32 b) (not-finite-bits b (omega arith))
    go (inr l) = value-far (of_bits binary32 b) _ _ (2 ^ 149) (bits-value b (omega arith)) (sizes-rise 128 0 (b % 2 ^ 31 / 2 ^ 23) (b % 2 ^ 23) (omega arith) (omega arith) (omega arith))

near-bits : (b : ℕ) → b % 2 ^ 31 ≤ 2 ^ 30 → outside_two (of_bits binary32 b) ≡ false
near-bits b h = value-near (of_bits binary32 b) _ _ (2 ^ 149) (pow_pos 149) (bits-value b (omega arith)) (go (eq-or-lt_of_le h))
  where
    go : (b % 2 ^ 31 ≡ 2 ^ 30) ⊎ (b % 2 ^ 31 < 2 ^ 30) → size (b % 2 ^ 31 / 2 ^ 23) (b % 2 ^ 23) ≤ 2 ^ 150
    go (inl e) = le_of_eq (ap (λ (k : ℕ). size k (b % 2 ^ 23)) {x = b % 2 ^ 31 / 2 ^ 23} {y = 128} (omega arith) ∙ ap (size 128) {x = b % 2 ^ 23} {y = 0} (omega arith))
    go (inr l) = le_of_lt (sizes-rise (b % 2 ^ 31 / 2 ^ 23) (b % 2 ^ 23) 128 0 (omega arith) (omega arith) (omega arith))

-- An f32 outside −2 to 2, by its bits.
module _ (x : Float) (f : T (fits binary32 x)) where
  pub far-single : 2 ^ 30 < to_bits binary32 x % 2 ^ 31 → outside_two x ≡ true
  far-single h = rw (of_bits-to_bits binary32 x f) at (far-bits (to_bits binary32 x) h)

  pub near-single : to_bits binary32 x % 2 ^ 31 ≤ 2 ^ 30 → outside_two x ≡ false
  near-single h = rw (of_bits-to_bits binary32 x f) at (near-bits (to_bits binary32 x) h)
