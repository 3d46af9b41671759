-- Only inner contracts need this: decimal digits in a slice, the least first.
use Rattle.std.specs.Prelude.{◌≡◌, List, [], ◌∷◌, ℕ, ◌+◌, ◌*◌, ◌%◌, ◌^◌, ◌<◌, ◌≤◌, length, drop, get_or}

-- Every element is a digit.
abbrev pub Digits : List ℕ → Type 0
Digits digits = (k : ℕ) → get_or digits k 0 < 10

-- Digits as one number, the first lowest.
abbrev pub number : List ℕ → ℕ
number [] = 0
number (d ∷ digits) = number digits * 10 + d

-- b has a's length and the lowest digits of N.
pub record Becomes (a b : List ℕ) (N : ℕ) : Type 0 where
  pub long : length b ≡ length a
  pub digits : Digits b
  pub equal : number b ≡ N % 10 ^ length a

-- n is the number of the digits from an index on, with as few digits below as leave at most seven.
pub record Highest (digits : List ℕ) (n up : ℕ) : Type 0 where
  pub within : up ≤ length digits
  pub is : n ≡ number (drop up digits)
  pub seven : n < 10_000_000
  pub least : 0 < up → 1_000_000 ≤ n
