-- Laws of tests: an outcome without its value.
use Rattle.build.proofs.Names.{◌≡◌, refl, sym, ap, ◌∙◌, Refusal, Outcome, Ok, Err, ◌>>=◌, no_value_lem, tested}

-- A step that maps the value tests nothing.
pub tested-made : {A B : Type 0} (o : Outcome A) (make : A → B) → tested (o >>= λ a. Ok (make a)) ≡ tested o
tested-made (Ok a) make = refl
tested-made (Err r) make = refl

tested-refused : {A : Type 0} (o : Outcome A) {r : Refusal} → Err r ≡ tested o → o ≡ Err r
tested-refused (Ok a) e = no_value_lem e
tested-refused (Err s) {r} e = let same : s ≡ r = cc in ap Err same

tested-good : {A : Type 0} (o : Outcome A) → Ok tt ≡ tested o → (a : A) × (o ≡ Ok a)
tested-good (Ok a) e = (a, refl)
tested-good (Err r) e = no_value_lem (sym e)

module _ {A : Type 0} (o : Outcome A) {j : Outcome (Unit {0})} (said : j ≡ tested o) where
  pub turned_down : {r : Refusal} → j ≡ Err r → o ≡ Err r
  turned_down e = tested-refused o (sym (e) ∙ said)

  pub accepted : j ≡ (Ok tt) → (a : A) × (o ≡ Ok a)
  accepted e = tested-good o (sym (e) ∙ said)
