-- Laws of a call that writes, with every byte afterwards. Its contract
-- is the pair `(written_said w out ≡ o) × (out ≡ afterwards image o)`.
use Rattle.refusal.proofs.Names.{◌≡◌, sym, ap, ◌∙◌, List, ℕ, Refusal, Outcome, Ok, Err, written_said, afterwards}

module _ (image : List ℕ) {o : Outcome (List ℕ)} where
  -- A refusal leaves every byte as it was.
  pub written-refused : {w : Outcome (Unit {0})} {r : Refusal} → w ≡ Err r → o ≡ Err r → (written_said w image ≡ o) × (image ≡ afterwards image o)
  written-refused e f = (ap (λ u. written_said u image) e ∙ sym f, ap (afterwards image) (sym f))

  -- An accepted call has written the image that its definition gives.
  pub written-done : {after out : List ℕ} → o ≡ Ok after → out ≡ after → (written_said (Ok tt) out ≡ o) × (out ≡ afterwards image o)
  written-done f e = (ap Ok e ∙ sym f, e ∙ ap (afterwards image) (sym f))
