-- Laws of the pieces of a line, in order.
use Rattle.console_words.proofs.Names.{◌≡◌, refl, ◌∙◌, Bool, true, false, cond, List, [], ◌∷◌, Option, None, Some, ℕ, eqb, Bor, option_map, slice_get, slice_split, onto_first, unwrap_or, unwrap_or-slice_get, before, pieces, piece_at}

before-onto : (b : ℕ) (l : List (List ℕ)) → before b l ≡ onto_first b l
before-onto b [] = refl
before-onto b (piece ∷ l) = refl

-- The pieces are the parts that `split` gives.
pub pieces-split : (s : ℕ) (l : List ℕ) → pieces s l ≡ slice_split (λ b. eqb b s) l
pieces-split s [] = refl
pieces-split s (b ∷ l) = rw (pieces-split s l) (by (eqb b s) (slice_split (λ b. eqb b s) l))
  where
    by : (t : Bool) (q : List (List ℕ)) → cond t ([] ∷ q) (before b q) ≡ cond t ([] ∷ q) (onto_first b q)
    by true q = refl
    by false q = before-onto b q

-- The part of an index, or an empty one.
pub part-or : (r : Option (Bor (List ℕ))) (d : Bor (List ℕ)) (s index : ℕ) (l : List ℕ) → d.now ≡ [] → option_map (λ x. x.now) r ≡ slice_get (slice_split (λ b. eqb b s) l) index → (unwrap_or r d).now ≡ piece_at s index l
part-or r d s index l n e = by r ∙ rw (e, n, pieces-split s l, unwrap_or-slice_get (slice_split (λ b. eqb b s) l) index [])
  where
    by : (o : Option (Bor (List ℕ))) → (unwrap_or o d).now ≡ unwrap_or (option_map (λ x. x.now) o) d.now
    by None = refl
    by (Some x) = refl
