-- Laws of the terms of an accepted curve: exponents are whole numbers
-- up to 5 that rise inside a segment, coefficients are finite.
use Rattle.layout.proofs.Names.{◌≡◌, ap, ◌∙◌, sym, subst, true, not, List, [], ◌∷◌, map, Option, None, Some, ℕ, suc, ◌+◌, ◌/◌, ◌≤◌, ◌<◌, arith, eqb, ℤ, pos, nat_abs, ◌*ℤ◌, binary32, of_bits, not-false, Ok}
use Rattle.layout.proofs.Names.{OutsideTable, NotFinite, good-same, passed, needed, Term, all_ones, finite, decode, least_exponent, coefficient, is_exponent, tenths_of, tenths_before, stepped-whole, power}
use Rattle.layout.proofs.Names.{follows-some, power-is, power-back, power-rises, Found, FoundTerm, figure, float, term_in}
use Rattle.refusal.specs.Outcome.{◌>>◌, refuse◌if◌}
use Rattle.codes.specs.declared.Value.TheVariants.{Single}
use Rattle.layout.proofs.Fields.{FieldAt}
use Rattle.layout.proofs.Curves.{term_pieces, TermAt, TermsAt}

-- ---- a coefficient

pub coefficient-is : {at : ℕ} {x : Found} → FieldAt coefficient at x → (x.value ≡ Single (of_bits binary32 x.code)) × (finite (float x.value) ≡ true)
unfolding decode
coefficient-is {at} {x} h =
    let y = of_bits binary32 x.code in
    let (t, f) = passed (OutsideTable at) (eqb x.code (all_ones 32)) (refuse NotFinite at if not (finite y) >> Ok (Single y)) x.value h.means in
    let (u, g) = passed (NotFinite at) (not (finite y)) (Ok (Single y)) x.value f in
    let e : x.value ≡ Single y = sym (good-same g) in
    (e, ap (λ v. finite (float v)) e ∙ not-false (finite y) u)

-- ---- an exponent

module _ {before : Option ℕ} {at : ℕ} {t : FoundTerm} (h : TermAt before at t) where
  abbrev x : Found
  x = t.exponent

  pub exponent-is : figure x.value ≡ tenths_of x.code
  exponent-is = ap figure (stepped-whole 7 least_exponent 5 at x.code x.value h.exponent.field.means)

  pub exponent-whole : is_exponent (tenths_of x.code) ≡ true
  exponent-whole = follows-some (tenths_before before) (tenths_of x.code) h.exponent.taken

  pub exponent-power : nat_abs (figure x.value) / 10 ≡ power x.code
  exponent-power = ap (λ (z : ℤ). nat_abs z / 10) exponent-is

  -- The exponent is stored as it is read.
  pub exponent-back : pos 10 *ℤ pos (nat_abs (figure x.value) / 10) ≡ figure x.value
  exponent-back = ap (λ (n : ℕ). pos 10 *ℤ pos n) exponent-power ∙ power-back x.code exponent-whole ∙ sym exponent-is

-- ---- terms

-- Exponents that rise from a power on, up to 5.
abbrev pub Rises : ℕ → List Term → Type 0
Rises least [] = Unit {0}
Rises least (t ∷ terms) = (least ≤ nat_abs t.exponent) × (nat_abs t.exponent < 6) × Rises (suc (nat_abs t.exponent)) terms

behind-rise : (b at : ℕ) (terms : List FoundTerm) → is_exponent (tenths_of b) ≡ true → TermsAt (Some b) at terms → Rises (suc (power b)) (map term_in terms)
behind-rise b at [] e h = tt
behind-rise b at (t ∷ terms) e h =
    let own = exponent-whole h.0 in
    subst (λ (n : ℕ). (suc (power b) ≤ n) × (n < 6) × Rises (suc n) (map term_in terms)) (sym (exponent-power h.0))
    (power-rises b t.exponent.code e h.0.exponent.taken, (power-is t.exponent.code own).0, behind-rise t.exponent.code (at + needed (term_pieces t)) terms own h.1)

-- The exponents of a segment rise.
pub terms-rise : (at : ℕ) (terms : List FoundTerm) → TermsAt None at terms → Rises 0 (map term_in terms)
terms-rise at [] h = tt
terms-rise at (t ∷ terms) h =
    let own = exponent-whole h.0 in
    subst (λ (n : ℕ). (0 ≤ n) × (n < 6) × Rises (suc n) (map term_in terms)) (sym (exponent-power h.0))
    (omega arith, (power-is t.exponent.code own).0, behind-rise t.exponent.code (at + needed (term_pieces t)) terms own h.1)
