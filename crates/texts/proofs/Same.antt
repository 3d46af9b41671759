-- Laws of equal lists.
use Rattle.texts.proofs.Names.{◌≡◌, refl, sym, subst, Bool, true, false, List, [], ◌∷◌, ℕ, T, eqb, eqb→eq, eq-eqb, same}
use Rattle.texts.proofs.Below.{first, second}

pub same_refl : (a : List ℕ) → same a a ≡ true
same_refl [] = refl
same_refl (x ∷ a) = rw (eq-eqb x x refl, same_refl a)

pub same-eq : (a b : List ℕ) → T (same a b) → a ≡ b
same-eq [] [] t = refl
same-eq [] (y ∷ b) t = absurd t
same-eq (x ∷ a) [] t = absurd t
same-eq (x ∷ a) (y ∷ b) t = rw (eqb→eq x y (first (eqb x y) (same a b) t), same-eq a b (second (eqb x y) (same a b) t))

pub not_same : (a b : List ℕ) → (a ≡ b → ⊥) → same a b ≡ false
not_same a b differ = by (same a b) refl
  where
    by : (t : Bool) → same a b ≡ t → same a b ≡ false
    by true e = absurd (differ (same-eq a b (subst T (sym e) tt)))
    by false e = e
