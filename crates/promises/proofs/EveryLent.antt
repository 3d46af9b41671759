-- Proof that every list of changes and commits can be lent as slices.
use Rattle.promises.proofs.Names.{◌≡◌, refl, ap, ap₂, ◌∙◌, cond, List, [], ◌∷◌, ◌++◌, map, ℕ, zero, suc, eqb, ℤ, Float, length, Value, Whole, Single, Missing, Level, Owner, CalibrationRoom, Maker, Alteration}
use Rattle.promises.proofs.Names.{changes, commits, level_lent, value_of_sort, alteration_lent, alterations_before, kind_in, level_number, level_in, field_in, sort_of, sort_in, whole_of, whole_in, single_of, single_in}
use Rattle.promises.proofs.Names.{present_in, new_in, EveryListLent}

level-back : (l : Level) → level_lent (level_number l) ≡ l
level-back Owner = refl
level-back CalibrationRoom = refl
level-back Maker = refl

change-back : (kind field : ℕ) (level : Level) (v : Value) →
    cond (eqb (sort_of v) 3) (commits (record { kind = kind; level = level; field = field; present = 0; new = 0 }))
    (changes (record { kind = kind; level = level; field = field; value = value_of_sort (sort_of v) (whole_of v) (single_of v) }))
    ≡ changes (record { kind = kind; level = level; field = field; value = v })
change-back kind field level (Whole z) = refl
change-back kind field level (Single x) = refl
change-back kind field level Missing = refl

module _ (k l f s : ℕ) (w : ℤ) (x : Float) (p n : ℕ) (ks ls fs ss : List ℕ) (ws : List ℤ) (xs : List Float) (ps ns : List ℕ) where
  -- The first alteration, and those after it.
  first_of : (i : ℕ) →
      alterations_before (k ∷ ks) (l ∷ ls) (f ∷ fs) (s ∷ ss) (w ∷ ws) (x ∷ xs) (p ∷ ps) (n ∷ ns) (suc i)
      ≡ alteration_lent (k ∷ ks) (l ∷ ls) (f ∷ fs) (s ∷ ss) (w ∷ ws) (x ∷ xs) (p ∷ ps) (n ∷ ns) 0 ∷ alterations_before ks ls fs ss ws xs ps ns i
  first_of zero = refl
  first_of (suc i) = ap (λ (bs : List Alteration). bs ++ (alteration_lent ks ls fs ss ws xs ps ns i ∷ [])) (first_of i)

pub every-list-lent : EveryListLent
every-list-lent [] = refl
every-list-lent (a ∷ list) =
    first_of (kind_in a) (level_in a) (field_in a) (sort_in a) (whole_in a) (single_in a) (present_in a) (new_in a)
    (map kind_in list) (map level_in list) (map field_in list) (map sort_in list) (map whole_in list) (map single_in list) (map present_in list) (map new_in list)
    (length (map field_in list))
    ∙ ap₂ (λ (b : Alteration) (bs : List Alteration). b ∷ bs) (back a) (every-list-lent list)
  where
    back : (a : Alteration) →
        alteration_lent (kind_in a ∷ map kind_in list) (level_in a ∷ map level_in list) (field_in a ∷ map field_in list) (sort_in a ∷ map sort_in list)
        (whole_in a ∷ map whole_in list) (single_in a ∷ map single_in list) (present_in a ∷ map present_in list) (new_in a ∷ map new_in list) 0 ≡ a
    back (changes ch) = rw (level-back ch.level) (change-back ch.kind ch.field ch.level ch.value)
    back (commits co) = rw (level-back co.level)
