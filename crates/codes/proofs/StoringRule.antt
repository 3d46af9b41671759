-- Laws of the storing rule between two neighbouring values. Only this file unfolds `goes_up`:
-- any rule with the first four laws could replace it, and the last two say which rule it is.
use Rattle.codes.proofs.Names.{◌≡◌, true, false, ℕ, ◌*◌, ◌≤◌, ◌<◌, le_trans, lt_of_le_of_lt, mul-le-mul, mul-lt-mul_of_pos_left, le-leb, lt-leb, leb-true, goes_up}

-- A greater figure goes up where a smaller one does, and a figure
-- goes up to smaller values where it goes up to greater ones.
pub up-later : (a b v w : ℕ) → v ≤ w → goes_up a b v ≡ true → goes_up a b w ≡ true
unfolding goes_up
up-later a b v w h e = le-leb (a * b) (w * w) (le_trans (leb-true (a * b) (v * v) e) (mul-le-mul h h))

pub up-lower : (a b c d w : ℕ) → a ≤ c → b ≤ d → goes_up c d w ≡ true → goes_up a b w ≡ true
unfolding goes_up
up-lower a b c d w h k e = le-leb (a * b) (w * w) (le_trans (mul-le-mul h k) (leb-true (c * d) (w * w) e))

-- From b on a figure goes up, and up to a it does not.
pub up_above : (a b w : ℕ) → a ≤ b → b ≤ w → goes_up a b w ≡ true
unfolding goes_up
up_above a b w h k = le-leb (a * b) (w * w) (mul-le-mul (le_trans h k) k)

pub stay-below : (a b w : ℕ) → 0 < a → a < b → w ≤ a → goes_up a b w ≡ false
unfolding goes_up
stay-below a b w some h k = lt-leb (a * b) (w * w) (lt_of_le_of_lt (mul-le-mul k k) (mul-lt-mul_of_pos_left h some))

-- The rule is by ratio: w × w against a × b.
pub up-ratio : (a b w : ℕ) → a * b ≤ w * w → goes_up a b w ≡ true
unfolding goes_up
up-ratio a b w h = le-leb (a * b) (w * w) h

pub stay-ratio : (a b w : ℕ) → w * w < a * b → goes_up a b w ≡ false
unfolding goes_up
stay-ratio a b w h = lt-leb (a * b) (w * w) h
