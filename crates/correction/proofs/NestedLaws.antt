-- Laws of the nested rule, one turn at a time.
use Rattle.correction.proofs.Names.{◌≡◌, refl, List, [], ◌∷◌, ℕ, suc, ◌+◌, ◌-◌, ◌≤◌, ◌<◌, arith, count_trailing_zeros, pos, Float, nan, binary64, add, mul, of_int, of_bits, of_fields, round, units, odd, size, climb, span}
use Rattle.correction.proofs.Names.{length, take, drop, get_or, length-drop, drop-cons, get_or-take, length-take-le, nested}

-- The coefficient of the highest power alone.
alone : (x c : Float) (l : List Float) → length l ≡ 0 → c ≡ nested x (c ∷ l)
unfolding nested
alone x c [] h = refl
alone x c (d ∷ l) h = absurd (omega arith)

last : (x : Float) (l : List Float) (k : ℕ) → length l ≡ suc k → get_or l k nan ≡ nested x (drop k l)
last x l k h = rw (drop-cons l k nan (omega arith)) (alone x (get_or l k nan) (drop (suc k) l) (simp length-drop (omega arith)))

-- One more power below.
more : (x : Float) (l : List Float) (k : ℕ) → suc k < length l → add binary64 (mul binary64 (nested x (drop (suc k) l)) x) (get_or l k nan) ≡ nested x (drop k l)
unfolding nested
more x l k h = rw (drop-cons l k nan (omega arith), drop-cons l (suc k) nan (omega arith))

-- The loop over the first `count` coefficients, from the highest.
module _ (x : Float) (l : List Float) (count : ℕ) (most : count ≤ length l) where
  long : length (take count l) ≡ count
  long = length-take-le count l most

  pub nested-first : 0 < count → get_or l (count - 1) nan ≡ nested x (drop (count - 1) (take count l))
  nested-first some = rw (← get_or-take count l (count - 1) nan (omega arith)) (last x (take count l) (count - 1) (omega (arith, long)))

  pub nested-turn : (done : ℕ) (sum : Float) → 0 < done → done < count → sum ≡ nested x (drop (count - done) (take count l))
      → add binary64 (mul binary64 sum x) (get_or l (count - 1 - done) nan) ≡ nested x (drop (count - (done + 1)) (take count l))
  nested-turn done sum some less s =
      let k : ℕ = count - 1 - done in
      let above : count - done ≡ suc k = omega arith in
      let own : count - (done + 1) ≡ k = omega arith in
      rw (s, above, own, ← get_or-take count l k nan (omega arith)) (more x (take count l) k (omega (arith, long)))

  pub nested-end : (done : ℕ) (sum : Float) → count ≤ done → sum ≡ nested x (drop (count - done) (take count l)) → sum ≡ nested x (take count l)
  nested-end done sum all s =
      let none : count - done ≡ 0 = omega arith in
      rw none at s

-- The literals of the code.
pub zero_is : of_bits binary64 0 ≡ of_int binary64 (pos 0)
unfolding of_bits of_int of_fields round units odd size climb span count_trailing_zeros
zero_is = refl

pub ten-million-is : of_bits binary64 0x4163_12d0_0000_0000 ≡ of_int binary64 (pos 10_000_000)
unfolding of_bits of_int of_fields round units odd size climb span count_trailing_zeros
ten-million-is = refl

pub hundred-is : of_bits binary64 0x4059_0000_0000_0000 ≡ of_int binary64 (pos 100)
unfolding of_bits of_int of_fields round units odd size climb span count_trailing_zeros
hundred-is = refl
