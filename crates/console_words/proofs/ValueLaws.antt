-- Laws of the value of a field that a word spells.
use Rattle.console_words.proofs.Names.{◌≡◌, refl, sym, ap, subst, ◌∙◌, true, false, List, [], ◌∷◌, Option, None, Some, ℕ, ◌%◌, ◌<◌, arith, lt-ltb, eq-eqb, ne_eqb, T, length, get_or, take}
use Rattle.console_words.proofs.Names.{take_all, length-take-le, Float, nan, inf, fin, is_nan, of_bits, of_fields, odd, div, binary32, nan_bits_is, nan_bits_above, Value, Single}
use Rattle.console_words.proofs.Names.{every, written, is_whole, Held, filled, filled_said, high_first, single}
use Rattle.console_words.proofs.FigureLaws.{says_is, says-not}
use Rattle.console_words.proofs.FilledLaws.{filled-count, filled-whole, written-long, whole_room, whole-said, not-whole}

-- ---- a NaN

the_nan : (x : Float) → T (is_nan x) → x ≡ nan
unfolding is_nan
the_nan nan h = refl
the_nan (inf s) h = absurd h
the_nan (fin s m e) h = absurd h

no_number : div binary32 (of_bits binary32 0) (of_bits binary32 0) ≡ nan
unfolding div of_bits of_fields odd
no_number = refl

pub nan_pattern : (n : ℕ) → 0x7f80_0000 < n % 0x8000_0000 → div binary32 (of_bits binary32 0) (of_bits binary32 0) ≡ of_bits binary32 n
nan_pattern n h =
    no_number ∙ sym (the_nan (of_bits binary32 n) (subst T (sym (sym (nan_bits_is binary32 n) ∙ (nan_bits_above binary32 n ∙ lt-ltb 0x7f80_0000 (n % 0x8000_0000) h))) tt))

-- ---- a Single

four_bytes : (l : List ℕ) → length l ≡ 4 → get_or l 0 0 ∷ get_or l 1 0 ∷ get_or l 2 0 ∷ get_or l 3 0 ∷ [] ≡ l
four_bytes [] h = absurd (omega arith)
four_bytes (a ∷ []) h = absurd (omega arith)
four_bytes (a ∷ b ∷ []) h = absurd (omega arith)
four_bytes (a ∷ b ∷ c ∷ []) h = absurd (omega arith)
four_bytes (a ∷ b ∷ c ∷ d ∷ []) h = refl
four_bytes (a ∷ b ∷ c ∷ d ∷ e ∷ l) h = absurd (omega arith)

-- The Single, from the four bytes in the buffer.
module _ (said : List (Option ℕ)) (first held : List ℕ) (four : length first ≡ 4) where
  not-said : (o : Option (List ℕ)) → ((l : List ℕ) → o ≡ Some l → 4 < length l) → None ≡ single o
  not-said None h = refl
  not-said (Some l) h = rw (ne_eqb (length l) 4 (λ e. omega (arith, h l refl)))

  module _ (r : Option ℕ) (e : filled_said r held ≡ filled said first) where
    pub single-not : r ≡ None → None ≡ single (every said)
    single-not k =
        let w : is_whole said first ≡ false = says-not (length said) _ (ap (λ (x : Held ℕ). x.count) (rw k at e) ∙ filled-count said first) in
        not-said (every said) (λ l i. rw four at (not-whole said first l w i))

    module _ (n : ℕ) (k : r ≡ Some n) where
      counted : (is_whole said first ≡ true) × (n ≡ length said)
      counted = says_is (length said) _ n (ap (λ (x : Held ℕ). x.count) (rw k at e) ∙ filled-count said first)

      held-is : held ≡ written said first
      held-is = ap (λ (x : Held ℕ). x.all) (rw k at e ∙ filled-whole said first counted.0)

      holds : every said ≡ Some (take n held)
      holds = whole-said said first counted.0 ∙ rw (← counted.1, held-is)

      long : length held ≡ 4
      long = ap length held-is ∙ (written-long said first ∙ four)

      pub single-other : (n ≡ 4 → ⊥) → None ≡ single (every said)
      single-other h =
          let m : length (take n held) ≡ n = length-take-le n held (omega (arith, long, whole_room said first counted.0, counted.1)) in
          rw (holds, ne_eqb (length (take n held)) 4 (λ i. h (sym m ∙ i)))

      pub single-is : (bits : ℕ) (x : Float) → n ≡ 4 → bits ≡ high_first 0 (get_or held 0 0 ∷ get_or held 1 0 ∷ get_or held 2 0 ∷ get_or held 3 0 ∷ []) → x ≡ of_bits binary32 bits → Some (Single x) ≡ single (every said)
      single-is bits x h b i = rw (holds, take_all n held (omega (arith, long)), eq-eqb (length held) 4 long, i, b) (ap {B = Option Value} (λ (m : List ℕ). Some (Single (of_bits binary32 (high_first 0 m)))) (four_bytes held long))
