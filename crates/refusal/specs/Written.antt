-- Document 01, "Turning down", of a call that writes: "A
-- refusal writes to no buffer and gives only number and place."
use Rattle.std.specs.Prelude.{List, ℕ}
use Rattle.refusal.specs.Outcome.{Outcome, Ok, Err}

-- The answer as an outcome whose value is the buffer's bytes after the call.
abbrev pub written_said : Outcome (Unit {0}) → List ℕ → Outcome (List ℕ)
written_said (Ok tt) image = Ok image
written_said (Err r) image = Err r

-- The buffer's bytes after the call: those promised, or unchanged if the call is refused.
abbrev pub afterwards : List ℕ → Outcome (List ℕ) → List ℕ
afterwards buffer (Ok image) = image
afterwards buffer (Err r) = buffer
