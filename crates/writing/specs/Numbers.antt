-- Of the numbers below n for which a test holds: how many, and the last.
use Rattle.std.specs.Prelude.{ℕ, zero, suc, ◌+◌, Bool, cond}

abbrev pub count : (ℕ → Bool) → ℕ → ℕ
count test zero = 0
count test (suc n) = cond (test n) 1 0 + count test n

-- The last such number; 0 if there is none.
abbrev pub last : (ℕ → Bool) → ℕ → ℕ
last test zero = 0
last test (suc n) = cond (test n) n (last test n)
