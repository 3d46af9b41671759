-- Laws of the struct that a call returns: the callee's
-- answer gives the outcome, and the outcome the struct.
use Rattle.dartelm.proofs.Names.{◌≡◌, sym, ap, ◌∙◌, List, [], ℕ, Outcome, written_said, afterwards, DartelmWriteAnswer, struct_of, write_answer}

-- The struct, from the case of a callee's answer.
pub answers : {A S : Type 0} (tell : Outcome A → S) {o answer case : Outcome A} → answer ≡ o → answer ≡ case → tell case ≡ tell o
answers tell e f = ap tell (sym f ∙ e)

-- For a call that writes, with the bytes before and after it.
pub answers-written : (before after : List ℕ) (w : Outcome (Unit {0})) {r : DartelmWriteAnswer} {o p : Outcome (List ℕ)}
    → ((image : List ℕ) → r ≡ struct_of write_answer [] (written_said w image)) → written_said w after ≡ o → after ≡ afterwards before o → o ≡ p
    → (r ≡ struct_of write_answer [] p) × (after ≡ afterwards before p)
answers-written before after w f g h e = (f after ∙ ap (struct_of write_answer []) (g ∙ e), h ∙ ap (afterwards before) e)
