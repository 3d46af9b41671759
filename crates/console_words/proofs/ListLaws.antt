-- Laws of a word's figures, in order.
use Rattle.console_words.proofs.Names.{◌≡◌, refl, sym, ap, ◌∙◌, Bool, true, false, List, [], ◌∷◌, map, Option, None, Some, ℕ, suc, ◌+◌, ◌≤◌, ◌<◌, add-one, arith, eqb, ℤ, length, get_or, get_or-map, get_or-take, get_or-enumerate_from, length-enumerate_from, length-take-le, enumerate_from, take, drop, drop-cons, length-map, slice_split, is_minus, figure, figures, counted}
use Rattle.console_words.proofs.Names.{cond, ltb, ltb-true, ltb-false, take_all, unwrap_or, position_or_len, fails_before_first, slice_split_none, slice_split_first, length-slice_split}
use Rattle.console_words.proofs.FilledLaws.{counted-all}
use Rattle.console_words.proofs.WordLaws.{pieces-split}

abbrev pub parts_of : List ℕ → List (List ℕ)
parts_of word = slice_split (λ b. eqb b 44) word

pub list-minus : (word : List ℕ) → is_minus word ≡ true → figures word ≡ []
list-minus word h = rw h

pub list-parts : (word : List ℕ) → is_minus word ≡ false → figures word ≡ map figure (parts_of word)
list-parts word m = rw (m, pieces-split 44 word)

-- ---- the figures that are counted

-- The figures of the parts from here on.
abbrev pub to_come : List ℕ → List (Option ℤ)
to_come rest = map figure (parts_of rest)

pub list-some : (rest : List ℕ) → 0 < length (to_come rest)
list-some rest = omega (arith, length-map (parts_of rest) figure, length-slice_split (λ b. eqb b 44) rest)

-- The part up to the first comma, or to the end: it is the last, or more follow.
pub record Part (rest : List ℕ) (end : ℕ) : Type 0 where
  pub others : List (Option ℤ)
  pub is : to_come rest ≡ figure (take end rest) ∷ others
  pub last : length rest ≤ end → others ≡ []
  pub more : end < length rest → others ≡ to_come (drop (end + 1) rest)

pub part-next : (rest : List ℕ) (r : Option ℕ) (end : ℕ) → r ≡ cond (ltb (position_or_len (λ b. eqb b 44) rest) (length rest)) (Some (position_or_len (λ b. eqb b 44) rest)) None → end ≡ unwrap_or r (length rest) → Part rest end
part-next rest r end e u = go (ltb (position_or_len (λ b. eqb b 44) rest) (length rest)) refl
  where
    go : (t : Bool) → ltb (position_or_len (λ b. eqb b 44) rest) (length rest) ≡ t → Part rest end
    go true h =
        let f : end ≡ position_or_len (λ b. eqb b 44) rest = u ∙ rw (e, h) in
        let l = ltb-true (position_or_len (λ b. eqb b 44) rest) (length rest) h in
        record { others = to_come (drop (end + 1) rest); is = rw (slice_split_first (λ b. eqb b 44) rest 0 l, f); last = λ k. absurd (omega (arith, f, l)); more = λ k. refl }
    go false h =
        let f : end ≡ length rest = u ∙ rw (e, h) in
        let l = ltb-false (position_or_len (λ b. eqb b 44) rest) (length rest) h in
        record {
          others = [];
          is = rw (take_all end rest (omega (arith, f)), slice_split_none (λ b. eqb b 44) rest (λ i d m. fails_before_first (λ b. eqb b 44) rest i d (omega (arith, l))));
          last = λ k. refl;
          more = λ k. absurd (omega (arith, f));
        }

-- ---- the figures that are put

-- The parts, as many as are counted, each with its index.
abbrev pub numbered : List ℕ → ℕ → List (ℕ × List ℕ)
numbered word count = enumerate_from 0 (take count (parts_of word))

-- The part of an index, and its figure.
pub record Turn (word : List ℕ) (room k at : ℕ) (part : List ℕ) : Type 0 where
  pub index : at ≡ k
  pub within : k < room
  pub is : drop k (figures word) ≡ figure part ∷ drop (k + 1) (figures word)

module _ (word : List ℕ) (room count : ℕ) (e : Some count ≡ counted (figures word) room) where
  all : (count ≡ length (figures word)) × (count ≤ room)
  all = counted-all (figures word) room count e

  none : is_minus word ≡ true → count ≡ 0
  none m = omega (arith, all.0, ap length (list-minus word m))

  each : is_minus word ≡ false → count ≡ length (parts_of word)
  each m = omega (arith, all.0, ap length (list-parts word m), length-map (parts_of word) figure)

  pub numbered-long : length (numbered word count) ≡ count
  numbered-long = go (is_minus word) refl
    where
      go : (t : Bool) → is_minus word ≡ t → length (numbered word count) ≡ count
      go true m = rw (none m)
      go false m = length-enumerate_from 0 (take count (parts_of word)) ∙ length-take-le count (parts_of word) (omega (arith, each m))

  pub figure-turn : (k at : ℕ) (part : List ℕ) → (k < length (numbered word count)) × (◌≡◌ {A = ℕ × List ℕ} (at, part) (get_or (numbered word count) k (at, part))) → Turn word room k at part
  figure-turn k at part h = go (is_minus word) refl
    where
      go : (t : Bool) → is_minus word ≡ t → Turn word room k at part
      go true m = absurd (omega (arith, h.0, numbered-long, none m))
      go false m =
          let parts = parts_of word in
          let short : k < count = omega (arith, h.0, numbered-long) in
          let pair : ◌≡◌ {A = ℕ × List ℕ} (at, part) (0 + k, get_or (take count parts) k part) = h.1 ∙ get_or-enumerate_from 0 (take count parts) k (at, part) (omega (arith, length-take-le count parts (omega (arith, each m)))) in
          let p : part ≡ get_or parts k part = ap (λ (x : ℕ × List ℕ). x.1) pair ∙ get_or-take count parts k part short in
          let q : get_or (map figure parts) k (figure part) ≡ figure part = get_or-map figure parts k part ∙ ap figure (sym p) in
          let l : k < length (map figure parts) = omega (arith, each m, length-map parts figure) in
          record {
            index = omega (arith, ap (λ (x : ℕ × List ℕ). x.0) pair);
            within = omega (arith, all.1);
            is = rw (list-parts word m, add-one k) (drop-cons (map figure parts) k (figure part) l ∙ ap {B = List (Option ℤ)} (λ x. x ∷ drop (suc k) (map figure parts)) q);
          }
