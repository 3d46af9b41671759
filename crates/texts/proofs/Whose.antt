-- Laws of the code of a text, if only one can have it.
use Rattle.texts.proofs.Names.{◌≡◌, refl, sym, ap, subst, ◌∙◌, ⊎_elim, Bool, true, false, ◌&&◌, cond, List, ℕ, zero, suc, ◌≤◌, zero-le, le_refl, le_of_suc-le-suc, eq-or-lt_of_le, arith, T, leb, leb-true}
use Rattle.texts.proofs.Names.{leb-false, Outcome, Ok, Err, Refusal, no_value_lem, same, whose_text, OnlyCode}
use Rattle.texts.proofs.Same.{same_refl, same-eq, not_same}

module _ (f : ℕ → List ℕ) (text : List ℕ) where
  hit : (k code : ℕ) (rest : Outcome ℕ) → f code ≡ text → code ≡ k → cond (same (f k) text) (Ok k) rest ≡ Ok code
  hit k code rest e z = rw (ap f (sym z) ∙ e, same_refl text) (ap Ok (sym z))

  whose-good : (none : Outcome ℕ) (n code : ℕ) → code ≤ n → f code ≡ text → OnlyCode f text n code → whose_text f text none n ≡ Ok code
  unfolding whose_text
  whose-good none zero code le e only = hit 0 code none e (omega arith)
  whose-good none (suc n) code le e only =
      ⊎_elim (hit (suc n) code (whose_text f text none n) e)
      (λ l.
      rw (not_same (f (suc n)) text (λ q. omega (arith, only (suc n) (le_refl (suc n)) q)))
      (whose-good none n code (le_of_suc-le-suc l) e (λ k h q. only k (omega arith) q)))
      (eq-or-lt_of_le le)

  whose-none : (none : Outcome ℕ) (n : ℕ) → ((code : ℕ) → code ≤ n → f code ≡ text → ⊥) → whose_text f text none n ≡ none
  unfolding whose_text
  whose-none none zero no_code = rw (not_same (f 0) text (no_code 0 zero-le))
  whose-none none (suc n) no_code =
      rw (not_same (f (suc n)) text (no_code (suc n) (le_refl (suc n)))) (whose-none none n (λ k h q. no_code k (omega arith) q))

  this-or-next : (k code : ℕ) (rest : Outcome ℕ) (b : Bool) → same (f k) text ≡ b → cond b (Ok k) rest ≡ Ok code → (rest ≡ Ok code → f code ≡ text) → f code ≡ text
  this-or-next k code rest true p e next = let z : k ≡ code = cc in subst (λ (j : ℕ). f j ≡ text) z (same-eq (f k) text (subst T (sym p) tt))
  this-or-next k code rest false p e next = next e

  pub whose-text : (r : Refusal) (n code : ℕ) → whose_text f text (Err r) n ≡ Ok code → f code ≡ text
  unfolding whose_text
  whose-text r zero code e = this-or-next 0 code (Err r) _ refl e no_value_lem
  whose-text r (suc n) code e = this-or-next (suc n) code (whose_text f text (Err r) n) _ refl e (whose-text r n code)

  -- The one code that can have the text has it, or none has.
  pub whose-one : (r : Refusal) (n code : ℕ) → OnlyCode f text n code → (a b : Bool) → leb code n ≡ a → same (f code) text ≡ b → whose_text f text (Err r) n ≡ cond (a && b) (Ok code) (Err r)
  whose-one r n code only true true ea eb = whose-good (Err r) n code (leb-true code n ea) (same-eq (f code) text (subst T (sym eb) tt)) only
  whose-one r n code only true false ea eb =
      whose-none (Err r) n (λ k h q. subst T (sym (ap (λ (j : ℕ). same (f j) text) (only k h q) ∙ ap (λ (l : List ℕ). same l text) q ∙ same_refl text) ∙ eb) tt)
  whose-one r n code only false b ea eb = whose-none (Err r) n (λ k h q. omega (arith, leb-false code n ea, only k h q))
