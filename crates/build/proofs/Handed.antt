-- What a `?` hands on: the refusal of the call, as it is.
use Rattle.build.proofs.Names.{◌≡◌, ap, Refusal, Outcome, Ok, Err}
use Rattle.std.specs.Prelude.{IsErr, IsErrAnd}

pub handed : {T : Type 0} (r : Outcome T) {e : Refusal} → IsErr r × IsErrAnd r (λ x. x ≡ e) → r ≡ Err e
handed (Ok x) p = absurd p.1
handed (Err x) p = ap Err p.1
