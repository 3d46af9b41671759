-- Laws of the answer for the next row.
use Rattle.std.proofs.Common.{subst}
use Rattle.dartelm.proofs.Names.{◌≡◌, refl, sym, ◌∙◌, Refusal, Outcome, Option, None, Some, Ok, Err, Row, Step, done, write, answered, struct_of, row_answer, no_row}

-- The struct from the case of an answer: the row's offset and bytes are the step's.
told : Outcome (Option Row) → Outcome Step → Type 0
told (Err r) o = struct_of row_answer no_row (Err r) ≡ struct_of row_answer no_row o
told (Ok None) o = struct_of row_answer no_row (Ok done) ≡ struct_of row_answer no_row o
told (Ok (Some x)) o = record { number = 0; place = 0; is_done = 0; offset = x.offset; bytes = x.bytes } ≡ struct_of row_answer no_row o

tells : (o : Outcome Step) → told (answered o) o
unfolding told
tells (Ok done) = refl
tells (Ok (write r bytes)) = refl
tells (Err r) = refl

module _ (o : Outcome Step) {n : Outcome (Option Row)} (e : n ≡ answered o) where
  pub row-refused : {r : Refusal} → n ≡ Err r → struct_of row_answer no_row (Err r) ≡ struct_of row_answer no_row o
  unfolding told
  row-refused f = subst (λ m. told m o) (sym e ∙ f) (tells o)

  pub row_done : n ≡ Ok None → struct_of row_answer no_row (Ok done) ≡ struct_of row_answer no_row o
  unfolding told
  row_done f = subst (λ m. told m o) (sym e ∙ f) (tells o)

  pub row_written : {x : Row} → n ≡ Ok (Some x) → record { number = 0; place = 0; is_done = 0; offset = x.offset; bytes = x.bytes } ≡ struct_of row_answer no_row o
  unfolding told
  row_written f = subst (λ m. told m o) (sym e ∙ f) (tells o)
