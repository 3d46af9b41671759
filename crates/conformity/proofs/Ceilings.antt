-- Laws of quotients rounded up.
use Rattle.conformity.proofs.Names.{◌≡◌, sym, ap, ℕ, ◌+◌, ◌*◌, ◌-◌, ◌/◌, ◌%◌, ◌≤◌, ◌<◌, div-add-mod', mod-lt, le_of_mul-le-mul_right, arith, ceiling, ceiling-meets, ceiling-least}

-- The whole part and the rest separately.
module _ (num run : ℕ) (some : 0 < run) where
  abbrev whole : ℕ
  whole = num / run

  abbrev rest : ℕ
  rest = num % run

  parted : num ≡ whole * run + rest
  parted = sym (div-add-mod' num run)

  pub rest-less : rest < run
  rest-less = mod-lt num some

  pub parts_up : 2000 * whole + ceiling (2000 * rest) run ≡ ceiling (2000 * num) run
  parts_up = omega (arith, most, least)
    where
      C : ℕ
      C = ceiling (2000 * num) run

      meets : 2000 * num ≤ C * run
      meets = ceiling-meets (2000 * num) run some

      wide : 2000 * whole ≤ C
      wide = le_of_mul-le-mul_right {k = run} (omega (arith, meets, parted)) some

      least : C ≤ 2000 * whole + ceiling (2000 * rest) run
      least = ceiling-least (2000 * num) run some (2000 * whole + ceiling (2000 * rest) run) (omega (arith, parted, ceiling-meets (2000 * rest) run some))

      left : 2000 * rest ≤ (C - 2000 * whole) * run
      left =
          let e : C ≡ (C - 2000 * whole) + 2000 * whole = omega (arith, wide) in
          omega (arith, meets, parted, ap (λ (n : ℕ). n * run) e)

      most : 2000 * whole + ceiling (2000 * rest) run ≤ C
      most = omega (arith, wide, ceiling-least (2000 * rest) run some (C - 2000 * whole) left)

  pub whole-small : (W : ℕ) → num ≤ W * run → whole ≤ W
  whole-small W h = le_of_mul-le-mul_right {k = run} (omega (arith, parted)) some

  pub rest-up-small : ceiling (2000 * rest) run ≤ 2000
  rest-up-small = ceiling-least (2000 * rest) run some 2000 (omega (arith, rest-less))
