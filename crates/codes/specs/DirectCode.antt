-- Only inner contracts need this: the answer of the fast path of `encode_by`.
use Rattle.std.specs.Prelude.{◌≡◌, ℕ, ◌^◌, ◌<◌}
use Rattle.refusal.specs.Outcome.{Ok}
use Rattle.codes.specs.declared.Row.{Row}
use Rattle.codes.specs.declared.Value.{Value}
use Rattle.codes.specs.Rules.{encode}

-- A number below 2^32 is the value's code, whatever the
-- place, and fits the row's bits. Any other says nothing.
abbrev pub DirectCode : Row → Value → ℕ → Type 0
DirectCode row value code = code < 2 ^ 32 → ((place : ℕ) → encode row place value ≡ Ok code) × (code < 2 ^ row.width)
