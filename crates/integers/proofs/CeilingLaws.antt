-- Laws of quotients rounded up.
use Rattle.integers.proofs.Names.{◌≡◌, sym, ℕ, suc, ◌+◌, ◌*◌, ◌-◌, ◌≤◌, ◌<◌, div-lt_iff_lt-mul, div-le_self, div-add-mod', mod-lt, mul-le-mul_right, le_of_mul-le-mul_right, arith, ceiling}

module _ (num den : ℕ) (some : 0 < den) where
  pub ceiling-meets : num ≤ ceiling num den * den
  ceiling-meets = omega (arith, div-add-mod' (num + (den - 1)) den, mod-lt (num + (den - 1)) some)

  pub ceiling-least : (k : ℕ) → num ≤ k * den → ceiling num den ≤ k
  ceiling-least k h = omega (arith, (div-lt_iff_lt-mul {k = den} {x = num + (den - 1)} {y = suc k} some).1 (omega arith))

  pub ceiling-small : ceiling num den ≤ num + (den - 1)
  ceiling-small = div-le_self (num + (den - 1)) den

  -- Less than 1 above the exact quotient.
  pub ceiling-tight : ceiling num den * den < num + den
  ceiling-tight = omega (arith, div-add-mod' (num + (den - 1)) den)

-- Equal fractions have equal quotients rounded up.
no_more : (a b c d : ℕ) → 0 < b → 0 < d → a * d ≡ c * b → ceiling a b ≤ ceiling c d
no_more a b c d hb hd e =
    ceiling-least a b hb (ceiling c d) (le_of_mul-le-mul_right {k = d} (omega (arith, mul-le-mul_right b (ceiling-meets c d hd))) hd)

pub ceiling-same : (a b c d : ℕ) → 0 < b → 0 < d → a * d ≡ c * b → ceiling a b ≡ ceiling c d
ceiling-same a b c d hb hd e = omega (arith, no_more a b c d hb hd e, no_more c d a b hd hb (sym e))
