-- Laws of the ending: the end bit and the text.
use Rattle.build.proofs.Names.{◌≡◌, Bool, false, not, ◌&&◌, ◌||◌, List, [], ◌∷◌, ℕ, zero, suc, ◌<◌, arith, eqb, ltb, length, get_or, ltb-false, eqb-false, Ok, WrongSort, OutOfRange, passed, not-refused}
use Rattle.build.proofs.Names.{neither, Characters, unfit, ending_tested}

-- ---- the characters

pub fit-characters : (text : List ℕ) → unfit text ≡ false → Characters text
fit-characters [] e = tt
fit-characters (c ∷ text) e =
    let (a, e1) = neither (eqb c 0 || ltb 127 c) (unfit text) e in
    let (a0, a1) = neither (eqb c 0) (ltb 127 c) a in
    (omega (arith, eqb-false c 0 a0), ltb-false 127 c a1, fit-characters text e1)

pub character-lt : (text : List ℕ) → Characters text → (i : ℕ) → get_or text i 0 < 128
character-lt [] h i = omega arith
character-lt (c ∷ text) h zero = omega (arith, h.1)
character-lt (c ∷ text) h (suc i) = character-lt text h.2 i

-- Text with end bit 0: row 9.
abbrev pub stray_text : Bool → List ℕ → Bool
stray_text end_bit text = not end_bit && ltb 0 (length text)

-- ---- tested

module _ (f : ℕ) (end_bit : Bool) (text : List ℕ) where
  pub ending-characters : ending_tested f end_bit text ≡ Ok tt → Characters text
  unfolding ending_tested
  ending-characters e =
      let (a, e1) = passed (WrongSort f) (stray_text end_bit text) _ tt e in
      fit-characters text (not-refused (OutOfRange f) (unfit text) e1)
