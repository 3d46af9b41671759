use Rattle.dartelm.proofs.Names.{sym, ap, pos, Whole, Value, Outcome, struct_of, field_answer}
use Rattle.dartelm.proofs.held.Goals as goal

pub returns-in-Err : goal.returns-in-Err
returns-in-Err c = rw (c.number.ensures, c.place.ensures, c.no_value.ensures) (sym (ap (λ (x : Outcome Value). struct_of field_answer (Whole (pos 0)) x) c.in-Err.is))

pub returns-in-Ok : goal.returns-in-Ok
returns-in-Ok c = rw c.by_flags.ensures (sym (ap (λ (x : Outcome Value). struct_of field_answer (Whole (pos 0)) x) c.in-Ok.is))
