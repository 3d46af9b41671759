-- Laws of the rows that a call can refuse by, from the rows of its steps.
use Rattle.refusal.proofs.Names.{◌≡◌, refl, sym, subst, Bool, true, false, cond, List, [], ◌∷◌, ℕ, ◌<◌, arith, eqb, eqb-true, Refusal, Outcome, Ok, Err, ◌>>=◌, ◌>>◌, refuse◌if◌, occurs, By, row_number}

-- Each of some rows is among others.
abbrev pub Among : List ℕ → List ℕ → Type 0
Among [] others = Unit {0}
Among (n ∷ rows) others = (0 < occurs n others) × Among rows others

occurs-among : (n : ℕ) (rows others : List ℕ) → Among rows others → 0 < occurs n rows → 0 < occurs n others
occurs-among n [] others h l = absurd (omega arith)
occurs-among n (m ∷ rows) others h l = go (eqb n m) refl (occurs-among n rows others h.1)
  where
    go : (b : Bool) → eqb n m ≡ b → (0 < occurs n rows → 0 < occurs n others) → 0 < occurs n others
    go true e rest = subst (λ (k : ℕ). 0 < occurs k others) (sym (eqb-true n m e)) h.0
    go false e rest = rest (rw e at l)

module _ (rows : List ℕ) where
  pub by-among : {A : Type 0} (others : List ℕ) (o : Outcome A) → Among rows others → By rows o → By others o
  by-among others (Ok a) h k = tt
  by-among others (Err r) h k = occurs-among (row_number r) rows others h k

  pub by-bind : {A B : Type 0} (m : Outcome A) (next : A → Outcome B) → By rows m → ((a : A) → By rows (next a)) → By rows (m >>= next)
  by-bind (Ok a) next h k = k a
  by-bind (Err r) next h k = h

  pub by-then : {B : Type 0} (m : Outcome (Unit {0})) (next : Outcome B) → By rows m → By rows next → By rows (m >> next)
  by-then (Ok a) next h k = k
  by-then (Err r) next h k = h

  pub by-test : {B : Type 0} (r : Refusal) (t : Bool) (next : Outcome B) → 0 < occurs (row_number r) rows → By rows next → By rows (refuse r if t >> next)
  by-test r true next h k = h
  by-test r false next h k = k

  pub by_last : (r : Refusal) (t : Bool) → 0 < occurs (row_number r) rows → By rows (refuse r if t)
  by_last r true h = h
  by_last r false h = tt

  pub by_cond : {A : Type 0} (t : Bool) (o p : Outcome A) → By rows o → By rows p → By rows (cond t o p)
  by_cond true o p h k = h
  by_cond false o p h k = k

  -- The number of a refusal is one of the rows.
  pub by_number : {A : Type 0} (o : Outcome A) (r : Refusal) → o ≡ Err r → By rows o → 0 < occurs (row_number r) rows
  by_number o r e h = subst (By rows) e h
