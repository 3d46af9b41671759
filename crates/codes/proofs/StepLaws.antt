-- Laws of stepped values and codes, for any start and step.
use Rattle.codes.proofs.Names.{◌≡◌, refl, sym, ap, ◌∙◌, false, ℕ, ◌+◌, ◌*◌, ◌-◌, ◌/◌, ◌^◌, ◌≤◌, ◌<◌, div-add-mod', mod-lt, le_antisymm, mul-le-mul_left, lt_of_mul-lt-mul_left, arith, ℤ, pos, negsuc, nat_abs, sub_ℕ}
use Rattle.codes.proofs.Names.{◌+ℤ◌, ◌-ℤ◌, lt_z, up, dn, InRange, ◌over◌, nearest, same, sub_parts, add_parts, sub-parts-ℤ, abs-parts, lt_z-parts, nlt_z-parts, le-lt_z, is_false, nearest-natural, stepped_value}
use Rattle.codes.proofs.Names.{stepped_code, Nearest}

-- start + s, if neither is large.
module _ (start : ℤ) (s u d : ℕ) (eu : u ≡ up start) (ed : d ≡ dn start) where
  pub reach : nat_abs start < 2 ^ 62 → s < 2 ^ 62 → InRange (u + s) d
  reach h k = record { high = omega (arith, abs-parts start); low = omega (arith, abs-parts start) }

  pub made : sub_ℕ (u + s) d ≡ start +ℤ pos s
  made = same (sub_ℕ (u + s) d) (start +ℤ pos s) (omega (arith, sub_parts (u + s) d, add_parts start (pos s)))

-- figure − start, if that is not below 0.
module _ (start figure : ℤ) (u d : ℕ) (eu : u ≡ up figure + dn start) (ed : d ≡ up start + dn figure) (h : lt_z figure start ≡ false) where
  pub not-below : d ≤ u
  not-below = omega (arith, nlt_z-parts figure start (is_false h))

  pub less : figure -ℤ start ≡ pos (u - d)
  less = same (figure -ℤ start) (pos (u - d)) (omega (arith, not-below, sub-parts-ℤ figure start))

  pub code_is : (step r : ℕ) → pos r ≡ nearest (pos (u - d) over step) → r ≡ stepped_code start step figure
  code_is step r e = ap nat_abs (e ∙ ap (λ (n : ℤ). nearest (n over step)) (sym less))

-- The code of a figure: 2 · step · code − step ≤ 2 · (figure − start) < 2 · step · code + step.
module _ (start : ℤ) (step : ℕ) (figure : ℤ) (some : 0 < step) (h : lt_z figure start ≡ false) where
  above : up start + dn figure ≤ up figure + dn start
  above = not-below start figure (up figure + dn start) (up start + dn figure) refl refl h

  gap : ℕ
  gap = up figure + dn start - (up start + dn figure)

  code-quotient : stepped_code start step figure ≡ (2 * gap + step) / (2 * step)
  unfolding gap
  code-quotient = sym (code_is start figure (up figure + dn start) (up start + dn figure) refl refl h step ((2 * gap + step) / (2 * step)) (sym (nearest-natural gap step)))

  pub code-low : 2 * (step * stepped_code start step figure) + 2 * (up start + dn figure) ≤ 2 * (up figure + dn start) + step
  unfolding gap
  code-low = rw code-quotient (omega (arith, above, div-add-mod' (2 * gap + step) (2 * step)))

  pub code-high : 2 * (up figure + dn start) < 2 * (step * stepped_code start step figure) + 2 * (up start + dn figure) + step
  unfolding gap
  code-high = rw code-quotient (omega (arith, above, div-add-mod' (2 * gap + step) (2 * step), mod-lt (2 * gap + step) {m = 2 * step} (omega arith)))

-- A figure moves by at most half a step, and by exactly half only upward.
pub small : (t : ℤ) (step : ℕ) → 2 * up t ≤ 2 * dn t + step → 2 * dn t ≤ 2 * up t + step → 2 * nat_abs t ≤ step
small (pos n) step l h = omega arith
small (negsuc n) step l h = omega arith

pub smaller : (t : ℤ) (step : ℕ) → up t < dn t → 2 * dn t < 2 * up t + step → 2 * nat_abs t < step
smaller (pos n) step l h = omega arith
smaller (negsuc n) step l h = omega arith

pub code-nearest : (start : ℤ) (step : ℕ) (z : ℤ) → 0 < step → lt_z z start ≡ false → Nearest step z (stepped_value start step (stepped_code start step z))
code-nearest start step z some h =
    record {
      near = small (y -ℤ z) step (omega (arith, parts, apart, code-low start step z some h)) (omega (arith, parts, apart, code-high start step z some h));
      below = λ l. smaller (y -ℤ z) step (omega (arith, apart, lt_z-parts y z l.lt)) (omega (arith, parts, apart, code-high start step z some h));
    }
  where
    y : ℤ
    y = stepped_value start step (stepped_code start step z)

    parts : up y + dn start ≡ dn y + (up start + step * stepped_code start step z)
    parts = omega (arith, add_parts start (pos (step * stepped_code start step z)))

    apart : up (y -ℤ z) + (dn y + up z) ≡ dn (y -ℤ z) + (up y + dn z)
    apart = sub-parts-ℤ y z

-- Codes rise with figures.
pub code-rises : (start : ℤ) (step : ℕ) (y z : ℤ) → 0 < step → lt_z y start ≡ false → lt_z z start ≡ false → up y + dn z ≤ up z + dn y → stepped_code start step y ≤ stepped_code start step z
code-rises start step y z some hy hz l = omega (arith, less-than)
  where
    less-than : stepped_code start step y < stepped_code start step z + 1
    less-than = lt_of_mul-lt-mul_left step (omega (arith, code-low start step y some hy, code-high start step z some hz))

-- The value of a code is not below the start nor above a later one, and is stored at its code.
pub value-above : (start : ℤ) (step code : ℕ) → lt_z (stepped_value start step code) start ≡ false
value-above start step code = le-lt_z (stepped_value start step code) start (omega (arith, add_parts start (pos (step * code))))

pub value-rises : (start : ℤ) (step c d : ℕ) → c ≤ d → lt_z (stepped_value start step d) (stepped_value start step c) ≡ false
value-rises start step c d h =
    le-lt_z (stepped_value start step d) (stepped_value start step c)
    (omega (arith, mul-le-mul_left step h, add_parts start (pos (step * c)), add_parts start (pos (step * d))))

pub code-back : (start : ℤ) (step code : ℕ) → 0 < step → stepped_code start step (stepped_value start step code) ≡ code
code-back start step code some = le_antisymm (omega (arith, less-than)) (omega (arith, more-than))
  where
    y : ℤ
    y = stepped_value start step code

    parts : up y + dn start ≡ dn y + (up start + step * code)
    parts = omega (arith, add_parts start (pos (step * code)))

    less-than : stepped_code start step y < code + 1
    less-than = lt_of_mul-lt-mul_left step (omega (arith, parts, code-low start step y some (value-above start step code)))

    more-than : code < stepped_code start step y + 1
    more-than = lt_of_mul-lt-mul_left step (omega (arith, parts, code-high start step y some (value-above start step code)))

-- A figure up to the value of a code has no greater code.
pub code-most : (start : ℤ) (step code : ℕ) (z : ℤ) → 0 < step → lt_z z start ≡ false → lt_z (stepped_value start step code) z ≡ false → stepped_code start step z ≤ code
code-most start step code z some h k = rw (code-back start step code some) at (code-rises start step z (stepped_value start step code) some h (value-above start step code) (nlt_z-parts (stepped_value start step code) z (is_false k)))
