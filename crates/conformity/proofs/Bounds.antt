-- Laws of the greatest difference: it suffices, no smaller number does, and it is attained.
use Rattle.conformity.proofs.Names.{◌≡◌, refl, subst, List, [], ◌∷◌, ◌⊎◌, inl, inr, ℕ, max, ◌*◌, ◌≤◌, ◌<◌, mul-le-mul_right, mul-pos, dec_le, arith, ℤ, pos, nat_abs, ◌+ℤ◌, ◌-ℤ◌, ◌*ℤ◌, ◌over◌, nearest, Pair}
use Rattle.conformity.proofs.Names.{Rises, Slopes, Conforms, AtPoints, WithinOf, correction, deviation, certificate_line, correction-some, conforms-within, ceiling-meets, ceiling-least, difference_at, greatest_over}
use Rattle.conformity.proofs.Names.{greatest_difference, Attains, AtSome, ceiling-tight}

module _ (stored lent : List Pair) (stored-rises : Rises stored) (rises : Rises lent) where
  abbrev num : ℤ → ℕ
  num x = 2000 * nat_abs ((correction x 1 stored).num *ℤ pos (correction x 1 lent).run -ℤ (correction x 1 lent).num *ℤ pos (correction x 1 stored).run)

  abbrev den : ℤ → ℕ
  den x = (correction x 1 stored).run * (correction x 1 lent).run

  some : (x : ℤ) → 0 < den x
  some x = mul-pos (correction-some (x over 1) stored stored-rises) (correction-some (x over 1) lent rises)

  -- ---- it suffices

  at-points : (M : ℕ) (pairs : List Pair) → greatest_over (difference_at stored lent) pairs ≤ M → AtPoints (Conforms M stored lent) pairs
  at-points M [] h = tt
  at-points M (p ∷ pairs) h =
      let less : difference_at stored lent p.point ≤ M = omega arith in
      (omega (arith, ceiling-meets (num p.point) (den p.point) (some p.point), mul-le-mul_right (den p.point) less), at-points M pairs (omega arith))

  pub greatest-within : (K : ℕ) (X : ℤ) (F : ℕ) → 0 < F → Slopes K lent →
      let p = nearest (X over F) in
      WithinOf (greatest_difference stored lent) K (p +ℤ deviation stored p) (certificate_line lent X F)
  greatest-within K X F h slopes =
      conforms-within (greatest_difference stored lent) K stored lent X F h stored-rises rises slopes (at-points (greatest_difference stored lent) stored (omega arith)) (at-points (greatest_difference stored lent) lent (omega arith))

  -- ---- no smaller number suffices

  least-over : (M : ℕ) (pairs : List Pair) → ((x : ℤ) → Conforms M stored lent x) → greatest_over (difference_at stored lent) pairs ≤ M
  least-over M [] h = omega arith
  least-over M (p ∷ pairs) h = omega (arith, ceiling-least (num p.point) (den p.point) (some p.point) M (h p.point), least-over M pairs h)

  pub greatest-least : (M : ℕ) → ((x : ℤ) → Conforms M stored lent x) → greatest_difference stored lent ≤ M
  greatest-least M h = omega (arith, least-over M stored h, least-over M lent h)

  -- ---- it is attained

  attains : (x : ℤ) → Attains (difference_at stored lent x) stored lent x
  attains x = ceiling-tight (num x) (den x) (some x)

  attained-over : (p : Pair) (pairs : List Pair) → AtSome (Attains (greatest_over (difference_at stored lent) (p ∷ pairs)) stored lent) (p ∷ pairs)
  attained-over p [] = inl (subst (λ (M : ℕ). Attains M stored lent p.point) (omega arith) (attains p.point))
  attained-over p (q ∷ pairs) = go (dec_le (greatest_over (difference_at stored lent) (q ∷ pairs)) (difference_at stored lent p.point)) (attained-over q pairs)
    where
      here : ℕ
      here = difference_at stored lent p.point

      rest : ℕ
      rest = greatest_over (difference_at stored lent) (q ∷ pairs)

      go : Dec (rest ≤ here) → AtSome (Attains rest stored lent) (q ∷ pairs) → AtSome (Attains (max here rest) stored lent) (p ∷ q ∷ pairs)
      go (yes h) later = inl (subst (λ (M : ℕ). Attains M stored lent p.point) (omega arith) (attains p.point))
      go (no h) later = inr (subst (λ (M : ℕ). AtSome (Attains M stored lent) (q ∷ pairs)) (omega arith) later)

-- The greater maximum of two lists is attained in one of them.
pub greatest-attained : (stored lent : List Pair) → Rises stored → Rises lent →
    ((stored ≡ []) × (lent ≡ [])) ⊎ (AtSome (Attains (greatest_difference stored lent) stored lent) stored ⊎ AtSome (Attains (greatest_difference stored lent) stored lent) lent)
greatest-attained [] [] rs rl = inl (refl, refl)
greatest-attained [] (q ∷ lent) rs rl =
    inr (inr (subst (λ (M : ℕ). AtSome (Attains M [] (q ∷ lent)) (q ∷ lent)) (omega arith) (attained-over [] (q ∷ lent) rs rl q lent)))
greatest-attained (p ∷ stored) [] rs rl =
    inr (inl (subst (λ (M : ℕ). AtSome (Attains M (p ∷ stored) []) (p ∷ stored)) (omega arith) (attained-over (p ∷ stored) [] rs rl p stored)))
greatest-attained (p ∷ stored) (q ∷ lent) rs rl = inr (go (dec_le two one))
  where
    one : ℕ
    one = greatest_over (difference_at (p ∷ stored) (q ∷ lent)) (p ∷ stored)

    two : ℕ
    two = greatest_over (difference_at (p ∷ stored) (q ∷ lent)) (q ∷ lent)

    go : Dec (two ≤ one) → AtSome (Attains (max one two) (p ∷ stored) (q ∷ lent)) (p ∷ stored) ⊎ AtSome (Attains (max one two) (p ∷ stored) (q ∷ lent)) (q ∷ lent)
    go (yes h) = inl (subst (λ (M : ℕ). AtSome (Attains M (p ∷ stored) (q ∷ lent)) (p ∷ stored)) (omega arith) (attained-over (p ∷ stored) (q ∷ lent) rs rl p stored))
    go (no h) = inr (subst (λ (M : ℕ). AtSome (Attains M (p ∷ stored) (q ∷ lent)) (q ∷ lent)) (omega arith) (attained-over (p ∷ stored) (q ∷ lent) rs rl q lent))
