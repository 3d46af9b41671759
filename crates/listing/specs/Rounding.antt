-- A Single in decimal, as the console shows it to a person: its exact
-- value, and that value to the nearest of seven digits. Document 01
-- has no rule for it: a tie goes to the even one, as IEEE 754 rounds.
use Rattle.std.specs.Prelude.{◌≡◌, Bool, cond, ℕ, ◌+◌, ◌-◌, ◌*◌, ◌/◌, ◌%◌, ◌^◌, ◌<◌, ◌≤◌, eqb, ltb}

-- A Single's m × 2^p / 2^149 with the decimal point 149 − p places up (a difference
-- below 0 is 0): a whole number, since 2^p and the 10s have 149 factors of 2.
abbrev pub exact : ℕ → ℕ → ℕ
exact m p = m * 2 ^ p * 10 ^ (149 - p) / 2 ^ 149

-- The rest below n is above half of a unit of n's last digit,
-- or exactly half if n is odd: a tie goes to the even one.
abbrev pub upward : ℕ → ℕ → ℕ → Bool
upward below unit n = cond (eqb (2 * below) unit) (eqb (n % 2) 1) (ltb unit (2 * below))

-- N in units, to the nearest.
abbrev pub to_even : ℕ → ℕ → ℕ
to_even N unit = cond (upward (N % unit) unit (N / unit)) (N / unit + 1) (N / unit)

-- n × 10^up is N to the nearest of seven digits: 10^up is
-- the least unit of which N has fewer than 10,000,000.
pub record Rounds (N n up : ℕ) : Type 0 where
  pub seven : N / 10 ^ up < 10_000_000
  pub least : 0 < up → 1_000_000 ≤ N / 10 ^ up
  pub nearest : n ≡ to_even N (10 ^ up)
