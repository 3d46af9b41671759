-- Laws of the loop over the text, character by character.
use Rattle.build.proofs.Names.{◌≡◌, refl, sym, ap, ap₂, ◌∙◌, true, false, ◌||◌, List, [], ◌∷◌, ◌++◌, map, ℕ, zero, suc, ◌+◌, ◌-◌, ◌*◌, ◌^◌, ◌≤◌, ◌<◌, lt_of_lt_of_le, add-one, arith, lt-ltb, le-ltb, eq-eqb}
use Rattle.build.proofs.Names.{ne_eqb, eqb, ltb, length, take, drop, get_or, length-map, get_or-map, take-append-drop, drop_of_length-le, pow_mono, slice, slice-cons, drop-cons, drop-append-le, length-take-le}
use Rattle.build.proofs.Names.{Outcome, Ok, Err, refuse◌if◌, WrongSort, OutOfRange, Piece, piece, pack, needed, pack-lt, unfit, ending_tested}
use Rattle.memory.proofs.PieceLaws.{Fit}

module _ (text : List ℕ) (i : ℕ) (h : i < length text) where
  step : unfit (drop i text) ≡ (eqb (get_or text i 0) 0 || ltb 127 (get_or text i 0) || unfit (drop (i + 1) text))
  step = rw (add-one i) (ap unfit (drop-cons text i 0 h))

  pub unfit-zero : get_or text i 0 ≡ 0 → unfit (drop i text) ≡ true
  unfit-zero e = step ∙ rw (eq-eqb (get_or text i 0) 0 e)

  pub unfit-above : (get_or text i 0 ≡ 0 → ⊥) → 127 < get_or text i 0 → unfit (drop i text) ≡ true
  unfit-above e k = step ∙ rw (ne_eqb (get_or text i 0) 0 e, lt-ltb 127 (get_or text i 0) k)

  pub unfit-next : (get_or text i 0 ≡ 0 → ⊥) → get_or text i 0 ≤ 127 → unfit (drop i text) ≡ unfit (drop (i + 1) text)
  unfit-next e k = step ∙ rw (ne_eqb (get_or text i 0) 0 e, le-ltb 127 (get_or text i 0) k)

pub unfit-end : (text : List ℕ) (i : ℕ) → length text ≤ i → unfit (drop i text) ≡ false
unfit-end text i h = ap unfit (drop_of_length-le text h)

-- ---- written

-- The characters from index i up to `end`.
abbrev pub chars : List ℕ → ℕ → ℕ → List Piece
chars text i end = slice i end (map (piece 7) text)

pub chars-bits : (text : List ℕ) (i end : ℕ) → end ≤ length text → needed (chars text i end) ≡ 7 * (end - i)
chars-bits text zero zero h = refl
chars-bits text (suc i) zero h = omega arith
chars-bits [] i (suc end) h = absurd (omega arith)
chars-bits (c ∷ text) zero (suc end) h = omega (arith, chars-bits text 0 end (omega arith))
chars-bits (c ∷ text) (suc i) (suc end) h = omega (arith, chars-bits text i end (omega arith))

pub chars-fit : (text : List ℕ) (i end : ℕ) → ((j : ℕ) → get_or text j 0 < 128) → Fit (chars text i end)
chars-fit text zero zero h = tt
chars-fit text (suc i) zero h = tt
chars-fit [] zero (suc end) h = tt
chars-fit [] (suc i) (suc end) h = tt
chars-fit (c ∷ text) zero (suc end) h = (h 0, chars-fit text 0 end (λ j. h (suc j)))
chars-fit (c ∷ text) (suc i) (suc end) h = chars-fit text i end (λ j. h (suc j))

module _ (text : List ℕ) (i end : ℕ) (h : end ≤ length text) where
  inside : end ≤ length (map (piece 7) text)
  inside = omega (arith, length-map text (piece 7))

  pub chars-none : end ≤ i → pack (chars text i end) ≡ 0
  chars-none k = ap pack (drop_of_length-le (take end (map (piece 7) text)) {i = i} (omega (arith, length-take-le end (map (piece 7) text) inside)))

  -- One more character in front of them.
  pub chars-more : 1 ≤ i → i ≤ end → pack (chars text (i - 1) end) ≡ 128 * pack (chars text i end) + get_or text (i - 1) 0
  chars-more some k =
      let next : suc (i - 1) ≡ i = omega arith in
      let e : chars text (i - 1) end ≡ piece 7 (get_or text (i - 1) 0) ∷ chars text i end =
      slice-cons (i - 1) end (map (piece 7) text) (piece 7 0) (omega arith) inside
      ∙ ap₂ (λ p (n : ℕ). p ∷ chars text n end) (get_or-map (piece 7) text (i - 1) 0) next in
      omega (arith, ap pack e)

  pub chars-left : i ≤ end → drop i (map (piece 7) text) ≡ chars text i end ++ drop end (map (piece 7) text)
  chars-left k =
      ap (drop i) (sym (take-append-drop end (map (piece 7) text)))
      ∙ drop-append-le i (take end (map (piece 7) text)) (drop end (map (piece 7) text)) (omega (arith, length-take-le end (map (piece 7) text) inside))

  pub chars-lt : ((j : ℕ) → get_or text j 0 < 128) → pack (chars text i end) < 2 ^ (7 * (end - i))
  chars-lt fits = rw (chars-bits text i end h) at (pack-lt (chars text i end) (chars-fit text i end fits))

  pub six-lt : ((j : ℕ) → get_or text j 0 < 128) → end ≤ i + 6 → pack (chars text i end) < 2 ^ 42
  six-lt fits k = lt_of_lt_of_le (chars-lt fits) (pow_mono {i = 7 * (end - i)} {j = 42} (omega arith))

pub chars-end : (text : List ℕ) (i : ℕ) → length text ≤ i → drop i (map (piece 7) text) ≡ []
chars-end text i h = drop_of_length-le (map (piece 7) text) {i = i} (omega (arith, length-map text (piece 7)))

-- ---- the ending, with its text tested

module _ (f : ℕ) (text : List ℕ) where
  pub open-ending : {o : Outcome (Unit {0})} → o ≡ (refuse OutOfRange f if unfit text) → o ≡ ending_tested f true text
  unfolding ending_tested
  open-ending e = e

  pub shut-ending : 0 < length text → Err (WrongSort f) ≡ ending_tested f false text
  unfolding ending_tested
  shut-ending h = rw (lt-ltb 0 (length text) h)

pub no-ending : (f : ℕ) (text : List ℕ) → length text ≤ 0 → Ok tt ≡ ending_tested f false text
unfolding ending_tested
no-ending f [] h = refl
no-ending f (c ∷ text) h = absurd (omega arith)
