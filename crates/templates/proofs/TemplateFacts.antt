-- Laws of every template, computed from its lines. The crates
-- above cite these, and look at no template's lines themselves.
use Rattle.templates.proofs.Names.{◌≡◌, refl, Bool, true, false, cond, None, Some, ℕ, zero, suc, ◌+◌, ◌*◌, ◌^◌, ◌≤◌, ◌<◌, arith, eqb-true, eqb, Cal, Template, Bridge, Resistance, physical, bridge_precision}
use Rattle.templates.proofs.Names.{bridge_end, line, choice, chosen, basic, template33, template32, number_of, template_of, lines_of, last_field, line_of, bits_before, length, length-append, template_lines, ◌-◌, subst}
use Rattle.templates.proofs.Names.{Layout, row_of}

-- The template numbers fit eight bits and differ.
pub number_lt : (t : Template) → number_of t < 2 ^ 8
number_lt Bridge = omega arith
number_lt Resistance = omega arith

pub number-known : (t : Template) → template_of (number_of t) ≡ Some t
number-known Bridge = refl
number-known Resistance = refl

pub known-number : (n : ℕ) (t : Template) → template_of n ≡ Some t → n ≡ number_of t
known-number n t e = go (eqb n 33) (eqb n 32) refl refl e
  where
    go : (a b : Bool) → eqb n 33 ≡ a → eqb n 32 ≡ b → cond a (Some Bridge) (cond b (Some Resistance) None) ≡ Some t → n ≡ number_of t
    go true b p q e = let same : Bridge ≡ t = cc in rw (← same) (eqb-true n 33 p)
    go false true p q e = let same : Resistance ≡ t = cc in rw (← same) (eqb-true n 32 q)
    go false false p q e = absurd (let z : ◌≡◌ {A = ℕ} 0 1 = cc in omega arith)

-- The sheet record has room for the fields of each template.
pub last-most : (t : Template) → last_field t ≤ 21
unfolding lines_of basic template33 template32
last-most Bridge = omega arith
last-most Resistance = omega arith

-- Basic's fields are the first of each template.
pub basic-most : (t : Template) → length basic ≤ last_field t
unfolding lines_of
basic-most t = omega (arith, length-append basic (template_lines t))

-- Each template has fields 7 to 11, the ends of the span.
pub span-listed : (t : Template) {f : ℕ} → f ≤ 11 → f ≤ last_field t
unfolding lines_of basic template33 template32
span-listed Bridge h = omega arith
span-listed Resistance h = omega arith

-- The lines of template 33 for the ends of the span.
pub span_lines : (line_of Bridge 7 ≡ line Cal physical) × (line_of Bridge 8 ≡ line Cal physical) × (line_of Bridge 9 ≡ choice Cal bridge_precision) × (line_of Bridge 10 ≡ chosen Cal bridge_end) × (line_of Bridge 11 ≡ chosen Cal bridge_end)
unfolding lines_of basic template33
span_lines = (refl, refl, refl, refl, refl)

-- Bounds of the bits of all fields.
pub bits-few : (t : Template) (p : ℕ) → bits_before (lines_of t) p (last_field t) < 2 ^ 16
unfolding lines_of basic template33 template32
bits-few Bridge zero = omega arith
bits-few Bridge (suc zero) = omega arith
bits-few Bridge (suc (suc p)) = omega arith
bits-few Resistance zero = omega arith
bits-few Resistance (suc zero) = omega arith
bits-few Resistance (suc (suc zero)) = omega arith
bits-few Resistance (suc (suc (suc p))) = omega arith

-- A template of fewer fields does not leave room for so
-- many more points, of 37 bits each, that an index grows.
pub bits-least : (t : Template) (p : ℕ) → 37 * last_field t ≤ bits_before (lines_of t) p (last_field t) + 512
unfolding lines_of basic template33 template32
bits-least Bridge zero = omega arith
bits-least Bridge (suc zero) = omega arith
bits-least Bridge (suc (suc p)) = omega arith
bits-least Resistance zero = omega arith
bits-least Resistance (suc zero) = omega arith
bits-least Resistance (suc (suc zero)) = omega arith
bits-least Resistance (suc (suc (suc p))) = omega arith

-- ---- the rows that both templates have

pub basic-five : length basic ≡ 5
unfolding basic
basic-five = refl

-- Fields 6 to 8.
front : (t : Template) (p k : ℕ) → k < 3 → (line_of Bridge (k + 6)).row_at 0 ≡ (line_of t (k + 6)).row_at p
unfolding lines_of basic template33 template32
front Bridge p zero h = refl
front Bridge p (suc zero) h = refl
front Bridge p (suc (suc zero)) h = refl
front Bridge p (suc (suc (suc k))) h = absurd (omega (arith, h))
front Resistance p zero h = refl
front Resistance p (suc zero) h = refl
front Resistance p (suc (suc zero)) h = refl
front Resistance p (suc (suc (suc k))) h = absurd (omega (arith, h))

pub front_same : (layout : Layout) (f : ℕ) → length basic < f → f ≤ 8 → (line_of Bridge f).row_at 0 ≡ row_of layout f
front_same layout f a b =
    let e : f - 6 + 6 ≡ f = omega (arith, a, basic-five) in
    subst (λ (n : ℕ). (line_of Bridge n).row_at 0 ≡ row_of layout n) e (front layout.template layout.precision (f - 6) (omega (arith, a, b, basic-five)))

-- The last four.
back : (t : Template) (p j : ℕ) → j < 4 → (line_of Bridge (j + 18)).row_at 0 ≡ (line_of t (last_field t - 4 + j + 1)).row_at p
unfolding lines_of basic template33 template32
back Bridge p zero h = refl
back Bridge p (suc zero) h = refl
back Bridge p (suc (suc zero)) h = refl
back Bridge p (suc (suc (suc zero))) h = refl
back Bridge p (suc (suc (suc (suc j)))) h = absurd (omega (arith, h))
back Resistance p zero h = refl
back Resistance p (suc zero) h = refl
back Resistance p (suc (suc zero)) h = refl
back Resistance p (suc (suc (suc zero))) h = refl
back Resistance p (suc (suc (suc (suc j)))) h = absurd (omega (arith, h))

pub back-same : (layout : Layout) (j : ℕ) → j < 4 → (line_of Bridge (j + 18)).row_at 0 ≡ row_of layout (last_field layout.template - 4 + j + 1)
back-same layout j h = back layout.template layout.precision j h

pub back-listed : {j : ℕ} → j < 4 → (length basic < j + 18) × (j + 18 ≤ last_field Bridge)
unfolding lines_of basic template33
back-listed h = (omega (arith, h), omega (arith, h))

-- There are fields between these.
pub front-most : (t : Template) → (length basic ≤ 8) × (8 ≤ last_field t - 4) × (4 ≤ last_field t)
unfolding lines_of basic template33 template32
front-most Bridge = (omega arith, omega arith, omega arith)
front-most Resistance = (omega arith, omega arith, omega arith)
