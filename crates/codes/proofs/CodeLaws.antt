-- Laws of the codes of w bits.
use Rattle.codes.proofs.Names.{◌≡◌, ◌∙◌, ℕ, ◌*◌, ◌%◌, ◌^◌, ◌≤◌, ◌<◌, one-mul, le_of_lt, lt_of_lt_of_le, lt_of_le_of_lt, mul-le-mul_left, arith, pow_pos, pow_mono, shl_exact, top_code}

-- 1 shifted up by w.
pub shifted : (w : ℕ) → w ≤ 32 → 1 * 2 ^ w % 2 ^ 64 ≡ 2 ^ w
shifted w h = shl_exact 1 w 64 (omega arith) (omega arith) ∙ one-mul (2 ^ w)

pub one_code : (w : ℕ) → 1 ≤ 2 ^ w
one_code w = pow_pos w

pub two-codes : (w : ℕ) → 1 ≤ w → 2 ≤ 2 ^ w
two-codes w h = pow_mono {i = 1} {j = w} h

-- A code of at most 32 bits is below 2^32.
pub below-2^32 : {w code : ℕ} → w ≤ 32 → code < 2 ^ w → code < 2 ^ 32
below-2^32 h l = lt_of_lt_of_le l (pow_mono h)

pub top_below : (w : ℕ) {code : ℕ} → code ≡ top_code w → code < 2 ^ w
top_below w e = omega (arith, one_code w)

-- A step times a code is small if the step times all codes is.
pub product : (step w : ℕ) {code : ℕ} → code < 2 ^ w → step * 2 ^ w < 2 ^ 62 → step * code < 2 ^ 62
product step w h k = lt_of_le_of_lt (mul-le-mul_left step (le_of_lt h)) k
