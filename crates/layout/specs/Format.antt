-- What a stream may hold from a place on, as steps: fields are read in
-- order, and each code decides what follows. Document 01's "the stream
-- from its start" is a format, and a check parses the stream by it.
use Rattle.std.specs.Prelude.{Bool, true, false, cond, List, [], ◌∷◌, ℕ, zero, suc, ◌+◌, ◌-◌, ltb}
use Rattle.refusal.specs.declared.Refusal.{Refusal}
use Rattle.refusal.specs.Outcome.{Outcome, Ok, Err}
use Rattle.refusal.specs.declared.Refusal.TheVariants.{PastEnd}
use Rattle.memory.specs.Bits.{field_at}

pub data Format (A : Type 0) : Type 0 where
  -- Nothing more is read.
  ends : A → Format A
  -- The stream is refused.
  stops : Refusal → Format A
  -- A field of that many bits; its code decides what follows.
  takes : ℕ → (ℕ → Format A) → Format A
  -- The next bit's place and the bits that remain decide what follows.
  looks : (ℕ → ℕ → Format A) → Format A

infixl 1 ◌>>=◌ ◌>>◌
abbrev pub ◌>>=◌ : {A B : Type 0} → Format A → (A → Format B) → Format B
◌>>=◌ (ends a) next = next a
◌>>=◌ (stops r) next = stops r
◌>>=◌ (takes w step) next = takes w (λ code. step code >>= next)
◌>>=◌ (looks step) next = looks (λ at left. step at left >>= next)

abbrev pub ◌>>◌ : {A B : Type 0} → Format A → Format B → Format B
◌>>◌ m next = m >>= λ a. next

-- ---- the steps

-- The code of a field of w bits.
abbrev pub bits : ℕ → Format ℕ
bits w = takes w ends

-- The place of the next bit.
abbrev pub place : Format ℕ
place = looks (λ at left. ends at)

-- The bits that remain.
abbrev pub remaining : Format ℕ
remaining = looks (λ at left. ends left)

-- The outcome of a rule.
abbrev pub given : {A : Type 0} → Outcome A → Format A
given (Ok a) = ends a
given (Err r) = stops r

-- The test of a row: if it holds, the row's refusal.
infix 2 reject◌if◌
abbrev pub reject◌if◌ : Refusal → Bool → Format (Unit {0})
reject◌if◌ r true = stops r
reject◌if◌ r false = ends tt

-- n of a format in order; each depends on what was read before it.
unfoldable pub repeated : {A B : Type 0} → (B → Format A) → (B → A → B) → ℕ → B → Format (List A)
repeated one behind zero before = ends []
repeated one behind (suc n) before = do
  x ← one before
  rest ← repeated one behind n (behind before x)
  ends (x ∷ rest)

-- ---- a stream parsed by a format

-- A stream: how many bits it has, and its bits as one number.
pub record Stream : Type 0 where
  pub bits : ℕ
  pub number : ℕ

-- What was read, and the place after it.
pub record Parsed (A : Type 0) : Type 0 where
  pub found : A
  pub next : ℕ

-- Parses from a place on. Row 3: a field that would pass the end.
abbrev pub parse : {A : Type 0} → Stream → Format A → ℕ → Outcome (Parsed A)
parse s (ends a) at = Ok (record { found = a; next = at })
parse s (stops r) at = Err r
parse s (takes w next) at = cond (ltb s.bits (at + w)) (Err (PastEnd at)) (parse s (next (field_at s.number at w)) (at + w))
parse s (looks next) at = parse s (next at (s.bits - at)) at
