-- Laws of the check of the ending: the end bit and the text.
use Rattle.sheet.proofs.Names.{◌≡◌, sym, ap, ◌∙◌, Bool, cond, List, [], ◌∷◌, ℕ, suc, ◌+◌, ◌-◌, ◌/◌, ◌≤◌, ◌<◌, arith, eqb, length, eq-eqb, ne_eqb, Refusal, Ok, Err, said_of, Cursor, Format, ends, ◌>>=◌, bits}
use Rattle.sheet.proofs.Names.{remaining, Stream, parse, Ending, characters_of, ending_of, parsed, parse-next, parse-refused, Outcome, Ok, Err, keeping, EndCount, end_count, behind, step_said}
use Rattle.sheet.proofs.Steps.{keep-made, keep-twice, count_left, count-more}

-- ---- characters in order

module _ (s : Stream) (n left at : ℕ) (more : 0 < left) (most : left ≤ n) where
  abbrev rest : Bool → ℕ → Format (List ℕ)
  rest b c = cond b (ends []) (characters_of (left - 1) >>= λ text. ends (c ∷ text))

  abbrev passed : List ℕ → ℕ
  passed l = n - left + length l

  first : parse s (characters_of left) at ≡ parse s (bits 7 >>= λ c. rest (eqb c 0) c) at
  unfolding characters_of
  first = let m : left ≡ suc (left - 1) = omega arith in ap (λ (k : ℕ). parse s (characters_of k) at) m

  pub text-past : {r : Refusal} → Err r ≡ parse s (bits 7) at → count_left s characters_of n left at ≡ Err r
  text-past e = ap (keeping passed) (first ∙ parse-refused s (bits 7) (λ c. rest (eqb c 0) c) at e)

  module _ {c m : ℕ} (e : Ok (parsed c m) ≡ parse s (bits 7) at) where
    at-character : count_left s characters_of n left at ≡ keeping passed (parse s (rest (eqb c 0) c) m)
    at-character = ap (keeping passed) (first ∙ parse-next s (bits 7) (λ c. rest (eqb c 0) c) at e)

    pub text-zero : c ≡ 0 → count_left s characters_of n left at ≡ Ok (parsed (n - left) m)
    text-zero h = at-character ∙ ap (λ b. keeping passed (parse s (rest b c) m)) (eq-eqb c 0 h) ∙ ap (λ (k : ℕ). Ok (parsed k m)) (omega arith)

    pub text-next : (c ≡ 0 → ⊥) → count_left s characters_of n left at ≡ count_left s characters_of n (left - 1) m
    text-next h = at-character ∙ ap (λ b. keeping passed (parse s (rest b c) m)) (ne_eqb c 0 h) ∙ count-more s characters_of n c left m more most

-- ---- the end bit

module _ (s : Stream) (at : ℕ) where
  abbrev ended : ℕ → List ℕ → Ending
  ended bit text = record { end_bit = eqb bit 1; text = text }

  abbrev texted : ℕ → Format Ending
  texted bit = remaining >>= λ left. characters_of (cond (eqb bit 1) (left / 7) 0) >>= λ text. ends (ended bit text)

  pub ending-past : {r : Refusal} → Err r ≡ parse s (bits 1) at → Err r ≡ keeping end_count (parse s ending_of at)
  unfolding ending_of
  ending-past e = sym (ap (keeping end_count) (parse-refused s (bits 1) texted at e))

  module _ {bit n : ℕ} (e : Ok (parsed bit n) ≡ parse s (bits 1) at) (most : ℕ) (em : most ≡ cond (eqb bit 1) ((s.bits - n) / 7) 0) (x : (Outcome (ℕ × Cursor)))
      (f : step_said x ≡ keeping length (parse s (characters_of most) n)) where
    abbrev counted : ℕ → EndCount
    counted n = record { end_bit = eqb bit 1; characters = n }

    at-text : keeping counted (step_said x) ≡ keeping end_count (parse s ending_of at)
    unfolding ending_of
    at-text =
        ap (keeping counted) f ∙ keep-twice counted length (parse s (characters_of most) n)
        ∙ sym (ap (keeping end_count) (parse-next s (bits 1) texted at e)
        ∙ ap (λ (k : ℕ). keeping end_count (parse s (characters_of k >>= λ text. ends (ended bit text)) n)) (sym em)
        ∙ keep-made end_count (ended bit) s (characters_of most) n)

    pub text-halts : {r : Refusal} → x ≡ Err r → Err r ≡ keeping end_count (parse s ending_of at)
    text-halts h = said_of (λ y. keeping counted (step_said y)) h at-text

    pub text-counts : {m : ℕ} {end : Cursor} → x ≡ Ok (m, end) → behind (counted m) end ≡ keeping end_count (parse s ending_of at)
    text-counts h = said_of (λ y. keeping counted (step_said y)) h at-text
