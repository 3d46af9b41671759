-- Laws of the check of the part after the fields: one block and the last selector.
use Rattle.sheet.proofs.Names.{◌≡◌, refl, sym, ap, ap₂, ◌∙◌, Bool, not, cond, ℕ, eqb, eq-eqb, ne_eqb, Refusal, Ok, Err, WrongBlock, said_of, Cursor, Format, ends, stops, ◌>>◌, bits, reject◌if◌}
use Rattle.sheet.proofs.Names.{Stream, parse, Calibration, bare, selector_of, table_of, curve_of, block_of, block_at, calibration_of, parsed, parse-next, parse-refused, None, Outcome, Ok, Err, Counts}
use Rattle.sheet.proofs.Names.{Ok, Err, keeping, counts_of, mark_of, only_block, behind, mark_said, step_said}
use Rattle.sheet.proofs.Steps.{keep-next, keep-refused, keep-made}

-- ---- the block after its selector

module _ (s : Stream) (at here : ℕ) where
  abbrev chosen : Bool → Bool → Format Calibration
  chosen table curve = cond table table_of (cond curve curve_of (stops (WrongBlock at)))

  pub number_past : {r : Refusal} → Err r ≡ parse s (bits 8) here → Err r ≡ keeping counts_of (parse s (block_at at) here)
  unfolding block_at
  number_past e = sym (ap (keeping counts_of) (parse-refused s (bits 8) (block_of at) here e))

  module _ {number n : ℕ} (e : Ok (parsed number n) ≡ parse s (bits 8) here) where
    at-number : (t c : Bool) → eqb number 40 ≡ t → eqb number 41 ≡ c → keeping counts_of (parse s (chosen t c) n) ≡ keeping counts_of (parse s (block_at at) here)
    unfolding block_at
    at-number t c et ec =
        sym (ap (keeping counts_of) (parse-next s (bits 8) (block_of at) here e) ∙ ap₂ (λ (t c : Bool). keeping counts_of (parse s (chosen t c) n)) et ec)

    pub numbers-table : number ≡ 40 → keeping counts_of (parse s table_of n) ≡ keeping counts_of (parse s (block_at at) here)
    numbers-table h = at-number _ _ (eq-eqb number 40 h) refl

    pub numbers-curve : (number ≡ 40 → ⊥) → number ≡ 41 → keeping counts_of (parse s curve_of n) ≡ keeping counts_of (parse s (block_at at) here)
    numbers-curve h k = at-number _ _ (ne_eqb number 40 h) (eq-eqb number 41 k)

    pub numbers-none : (number ≡ 40 → ⊥) → (number ≡ 41 → ⊥) → Err (WrongBlock at) ≡ keeping counts_of (parse s (block_at at) here)
    numbers-none h k = at-number _ _ (ne_eqb number 40 h) (ne_eqb number 41 k)

-- ---- the block and the selector after it

abbrev selected : Calibration → Format Calibration
selected c = selector_of 3 >> ends c

module _ (s : Stream) (at here : ℕ) (x : (Outcome (Counts × Cursor))) (e : step_said x ≡ keeping counts_of (parse s (block_at at) here)) where
  pub block_halts : {r : Refusal} → x ≡ Err r → Err r ≡ keeping counts_of (parse s (only_block at) here)
  block_halts h = sym (ap (keeping counts_of) (keep-refused counts_of s (block_at at) selected here (said_of step_said h e)))

  module _ {count : Counts} {next : Cursor} (h : x ≡ Ok (count, next)) (y : Outcome Cursor) (f : mark_said y ≡ parse s (mark_of 2 3 next.at) next.at) where
    at-selector : keeping (λ u. count) (mark_said y) ≡ keeping counts_of (parse s (only_block at) here)
    unfolding selector_of
    at-selector =
        let (c, q, p) = keep-next counts_of s (block_at at) selected here (said_of step_said h e) in
        ap₂ (λ (m : Counts) o. keeping (λ u. m) o) (sym q) f
        ∙ sym (ap (keeping counts_of) p ∙ keep-made counts_of (λ u. c) s (selector_of 3) next.at)

    pub last-halts : {r : Refusal} → y ≡ Err r → Err r ≡ keeping counts_of (parse s (only_block at) here)
    last-halts g = said_of (λ w. keeping (λ u. count) (mark_said w)) g at-selector

    pub last-stands : {end : Cursor} → y ≡ Ok end → behind count end ≡ keeping counts_of (parse s (only_block at) here)
    last-stands g = said_of (λ w. keeping (λ u. count) (mark_said w)) g at-selector

-- ---- one block, or none

module _ (s : Stream) (at : ℕ) where
  abbrev alone : Bool → Format Calibration
  alone last = reject WrongBlock at if not last >> ends bare

  abbrev picked : Bool → ℕ → Format Calibration
  picked first selector = cond first (only_block at) (alone (eqb selector 3))

  pub selector-past : {r : Refusal} → Err r ≡ parse s (bits 2) at → Err r ≡ keeping counts_of (parse s calibration_of at)
  unfolding calibration_of
  selector-past e = sym (ap (keeping counts_of) (parse-refused s (bits 2) (λ selector. picked (eqb selector 0) selector) at e))

  module _ {selector n : ℕ} (e : Ok (parsed selector n) ≡ parse s (bits 2) at) where
    at-choice : keeping counts_of (parse s calibration_of at) ≡ keeping counts_of (parse s (picked (eqb selector 0) selector) n)
    unfolding calibration_of
    at-choice = ap (keeping counts_of) (parse-next s (bits 2) (λ selector. picked (eqb selector 0) selector) at e)

    pub selects-block : selector ≡ 0 → keeping counts_of (parse s (only_block at) n) ≡ keeping counts_of (parse s calibration_of at)
    selects-block h = sym (at-choice ∙ ap (λ b. keeping counts_of (parse s (picked b selector) n)) (eq-eqb selector 0 h))

    no_block : (selector ≡ 0 → ⊥) → keeping counts_of (parse s calibration_of at) ≡ keeping counts_of (parse s (alone (eqb selector 3)) n)
    no_block h = at-choice ∙ ap (λ b. keeping counts_of (parse s (picked b selector) n)) (ne_eqb selector 0 h)

    pub selects-end : (selector ≡ 0 → ⊥) → selector ≡ 3 → Ok (parsed (record { domain = None; points = 0; segments = 0; terms = 0 }) n) ≡ keeping counts_of (parse s calibration_of at)
    selects-end h k = sym (no_block h ∙ ap (λ b. keeping counts_of (parse s (alone b) n)) (eq-eqb selector 3 k))

    pub selects-none : (selector ≡ 0 → ⊥) → (selector ≡ 3 → ⊥) → Err (WrongBlock at) ≡ keeping counts_of (parse s calibration_of at)
    selects-none h k = sym (no_block h ∙ ap (λ b. keeping counts_of (parse s (alone b) n)) (ne_eqb selector 3 k))
