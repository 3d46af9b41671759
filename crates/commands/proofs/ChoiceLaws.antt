-- Laws of the table of commands.
use Rattle.commands.proofs.Names.{◌≡◌, sym, ap, ◌∙◌, ◌⊎◌, inl, inr, List, ℕ, ne_eqb, word_at, word_count, Command, NoCommand, named, command_of}

pub named-as : (name : List ℕ) {r : Command} {k words : ℕ} → r ≡ named name k → words ≡ k → r ≡ named name words
named-as name e h = e ∙ ap (λ (n : ℕ). named name n) (sym h)

-- The three numbers of words of a build have one row each, and these say the same.
pub named-sheet : (name : List ℕ) {r : Command} {words : ℕ} → r ≡ named name 28 → (words ≡ 28) ⊎ ((words ≡ 30) ⊎ (words ≡ 32)) → r ≡ named name words
named-sheet name e (inl h) = named-as name e h
named-sheet name e (inr (inl h)) = named-as name e h
named-sheet name e (inr (inr h)) = named-as name e h

module _ (name : List ℕ) (words : ℕ) where
  pub named_none : (words ≡ 1 → ⊥) → (words ≡ 2 → ⊥) → (words ≡ 3 → ⊥) → (words ≡ 4 → ⊥) → (words ≡ 5 → ⊥) → (words ≡ 6 → ⊥) → (words ≡ 7 → ⊥) → ((words ≡ 28) ⊎ ((words ≡ 30) ⊎ (words ≡ 32)) → ⊥) → NoCommand ≡ named name words
  named_none one two three four five six seven sheet =
      simp (ne_eqb words 1 one, ne_eqb words 2 two, ne_eqb words 3 three, ne_eqb words 4 four, ne_eqb words 5 five, ne_eqb words 6 six, ne_eqb words 7 seven, ne_eqb words 28 (λ h. sheet (inl h)), ne_eqb words 30 (λ h. sheet (inr (inl h))), ne_eqb words 32 (λ h. sheet (inr (inr h))))

pub named-of : (line : List ℕ) {r : Command} {name : List ℕ} {words : ℕ} → r ≡ named name words → name ≡ word_at 0 line → words ≡ word_count line → r ≡ command_of line
named-of line {words = words} e n w = e ∙ ap (λ (m : List ℕ). named m words) n ∙ ap (λ (k : ℕ). named (word_at 0 line) k) w
