-- Laws of places, from the bits before them.
use Rattle.layout.proofs.Names.{◌≡◌, refl, ap, ◌∙◌, Bool, cond, List, [], ◌∷◌, ℕ, zero, suc, ◌+◌, ◌-◌, ◌*◌, ◌^◌, ◌≤◌, ◌<◌, arith, length, length-append, lt-ltb, le-ltb, Layout, Line, basic, template_lines, lines_of}
use Rattle.layout.proofs.Names.{last_field, ending, bits_before, bits-few, block_bits, field_place, behind_fields, table_bits, curve_bits}

bits_most : (lines : List Line) (p i : ℕ) → bits_before lines p i ≤ bits_before lines p (length lines)
bits_most [] p i = omega arith
bits_most (l ∷ lines) p zero = omega arith
bits_most (l ∷ lines) p (suc i) = omega (arith, bits_most lines p i)

module _ (layout : Layout) where
  abbrev lines : List Line
  lines = lines_of layout.template

  pub place-few : (i : ℕ) → bits_before lines layout.precision i < 2 ^ 16
  place-few i = omega (arith, bits_most lines layout.precision i, bits-few layout.template layout.precision)

  pub in-basic : (f : ℕ) → f ≤ length basic → field_place layout f ≡ bits_before lines layout.precision (f - 1)
  unfolding field_place
  in-basic f h = ap (λ (b : Bool). bits_before lines layout.precision (f - 1) + cond b block_bits 0) (le-ltb (length basic) f h) ∙ omega arith

  pub behind-basic : (f : ℕ) → length basic < f → field_place layout f ≡ bits_before lines layout.precision (f - 1) + 10
  unfolding field_place
  behind-basic f h = ap (λ (b : Bool). bits_before lines layout.precision (f - 1) + cond b block_bits 0) (lt-ltb (length basic) f h)

  pub fields-end : behind_fields layout ≡ bits_before lines layout.precision (last_field layout.template) + 10
  unfolding lines_of
  fields-end = behind-basic (ending layout.template) (omega (arith, length-append basic (template_lines layout.template))) ∙ ap (λ (n : ℕ). bits_before lines layout.precision n + 10) (omega arith)

  pub end-few : behind_fields layout < 2 ^ 17
  end-few = omega (arith, fields-end, place-few (last_field layout.template))

pub table-some : (n : ℕ) → (n ≡ 0 → ⊥) → 18 + 37 * n ≡ table_bits n
table-some zero h = absurd (h refl)
table-some (suc n) h = refl

pub table-most : (n : ℕ) → table_bits n ≤ 18 + 37 * n
table-most zero = omega arith
table-most (suc n) = omega arith

pub table-least : (n : ℕ) → n ≤ table_bits n
table-least zero = omega arith
table-least (suc n) = omega arith

pub curve-some : (n terms : ℕ) → (n ≡ 0 → ⊥) → 19 + 20 * n + 39 * terms ≡ curve_bits n terms
curve-some zero terms h = absurd (h refl)
curve-some (suc n) terms h = refl

pub curve-most : (n terms : ℕ) → curve_bits n terms ≤ 19 + 20 * n + 39 * terms
curve-most zero terms = omega arith
curve-most (suc n) terms = omega arith
