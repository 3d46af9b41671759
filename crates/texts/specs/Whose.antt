-- Only inner contracts need this: how the code of a
-- text is found. At most one code can have the text.
use Rattle.std.specs.Prelude.{◌≡◌, not, List, ℕ, ◌≤◌}
use Rattle.refusal.specs.Outcome.{Outcome, Ok, ◌>>◌, ◌>>=◌, refuse◌if◌}
use Rattle.refusal.specs.declared.Refusal.TheVariants.{OutOfRange}
use Rattle.texts.specs.Text.{text_of, same}

-- Of codes 0 to n, no other than `only` gives x. Whether `only` does is left open.
abbrev pub OnlyCode : {A : Type 0} → (ℕ → A) → A → ℕ → ℕ → Type 0
OnlyCode given x n only = (code : ℕ) → code ≤ n → given code ≡ x → only ≡ code

-- A code, if this is its text.
unfoldable pub code_if_shown : ℕ → ℕ → List ℕ → Outcome ℕ
code_if_shown field code text = do
  shown ← text_of field code
  refuse OutOfRange field if not (same shown text)
  Ok code
