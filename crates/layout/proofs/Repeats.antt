-- Laws of formats that repeat: what each turn allows, and the pieces.
use Rattle.layout.proofs.Names.{◌≡◌, refl, sym, ap, ap₂, ◌∙◌, subst, List, [], ◌∷◌, ◌++◌, ℕ, zero, suc, ◌+◌, length, Piece, needed, Format, ends, ◌>>=◌, repeated}
use Rattle.layout.proofs.Formats.{Parses, parses-bind, parses-halves, ends-pieces, parses-made, made-pieces}

-- The pieces of each item, and each item at the place where the one before it ends.
abbrev pub each_pieces : {A : Type 0} → (A → List Piece) → List A → List Piece
each_pieces pieces [] = []
each_pieces pieces (x ∷ xs) = pieces x ++ each_pieces pieces xs

abbrev pub EachAt : {A B : Type 0} → (B → A → B) → (B → ℕ → A → Type 0) → (A → List Piece) → B → ℕ → List A → Type 0
EachAt behind At pieces before at [] = Unit {0}
EachAt behind At pieces before at (x ∷ xs) = At before at x × EachAt behind At pieces (behind before x) (at + needed (pieces x)) xs

-- The n items at a place.
pub record EachPieces {A B : Type 0} (behind : B → A → B) (At : B → ℕ → A → Type 0) (pieces : A → List Piece) (n : ℕ) (before : B) (at : ℕ) (ps : List Piece) (xs : List A) : Type 0 where
  pub count : length xs ≡ n
  pub split : ps ≡ each_pieces pieces xs
  pub stand : EachAt behind At pieces before at xs

module _ {A B : Type 0} (S : ℕ) (one : B → Format A) (behind : B → A → B) (At : B → ℕ → A → Type 0) (pieces : A → List Piece) where
  pub each-parses : ((before : B) (at : ℕ) (x : A) → At before at x → Parses S (one before) at (pieces x) x) →
      (before : B) (at : ℕ) (xs : List A) → EachAt behind At pieces before at xs → Parses S (repeated one behind (length xs) before) at (each_pieces pieces xs) xs
  unfolding repeated
  each-parses parses before at [] h = refl
  each-parses parses before at (x ∷ xs) h =
      parses-bind S (one before) _ at (pieces x) (each_pieces pieces xs) x (x ∷ xs) (parses before at x h.0)
      (parses-made S (repeated one behind (length xs) (behind before x)) (λ rest. x ∷ rest) _ (each_pieces pieces xs) xs
      (each-parses parses (behind before x) (at + needed (pieces x)) xs h.1))

  pub each-pieces : ((before : B) (at : ℕ) (ps : List Piece) (x : A) → Parses S (one before) at ps x → (ps ≡ pieces x) × At before at x) →
      (n : ℕ) (before : B) (at : ℕ) (ps : List Piece) (xs : List A) → Parses S (repeated one behind n before) at ps xs → EachPieces behind At pieces n before at ps xs
  unfolding repeated
  each-pieces found zero before at ps xs l =
      let (e, f) = ends-pieces S [] at ps xs l in
      subst (EachPieces behind At pieces 0 before at ps) f (record { count = refl; split = e; stand = tt })
  each-pieces found (suc n) before at ps xs l =
      let h = parses-halves S (one before) (λ x. repeated one behind n (behind before x) >>= λ rest. ends (x ∷ rest)) at ps xs l in
      let x : A = h.middle in
      let (e, f) = found before at h.first x h.front in
      let (others, g, m) = made-pieces S (repeated one behind n (behind before x)) (λ rest. x ∷ rest) _ h.second xs h.back in
      let r = each-pieces found n (behind before x) (at + needed (pieces x)) h.second others
      (subst (λ (q : List Piece). Parses S (repeated one behind n (behind before x)) (at + needed q) h.second others) e m) in
      subst (EachPieces behind At pieces (suc n) before at ps) g (record {
        count = ap suc r.count;
        split = sym h.joined ∙ ap₂ (λ q s. q ++ s) e r.split;
        stand = (f, r.stand);
      })
