-- Laws of an array of n elements, each zero at first, that is
-- filled from its start with the mapped elements of a list.
use Rattle.dartelm.proofs.Names.{◌≡◌, ap, ◌∙◌, List, [], ◌∷◌, ◌++◌, map, map-append, append_assoc, ℕ, suc, ◌+◌, ◌-◌, ◌≤◌, ◌<◌, arith, add-one, length, get_or, take, set, replicate, length-map, take-suc, take_all}
use Rattle.dartelm.proofs.Names.{set_at, length-take-le, padded}

-- The array after i elements.
abbrev pub filled : {A B : Type 0} → (A → B) → ℕ → B → List A → ℕ → List B
filled make n zero from i = padded n zero (map make (take i from))

module _ {A B : Type 0} (make : A → B) (n : ℕ) (zero : B) (from : List A) where
  pub filled_more : (i : ℕ) (b : B) (d : A) (array : List B) → i < n → i < length from → array ≡ filled make n zero from i → b ≡ make (get_or from i d)
      → set array i b ≡ filled make n zero from (i + 1)
  filled_more i b d array h k e f =
      let made = map make (take i from) in
      let many : length made ≡ i = length-map (take i from) make ∙ length-take-le i from (omega arith) in
      let more : map make (take (i + 1) from) ≡ made ++ (b ∷ []) = rw (add-one, take-suc from i d k, f) (map-append make (take i from) (get_or from i d ∷ [])) in
      let rest : n - length made ≡ suc (n - (i + 1)) = omega arith in
      let left : n - length (map make (take (i + 1) from)) ≡ n - (i + 1) = rw (length-map, length-take-le (i + 1) from (omega arith)) in
      rw (e, rest, left, more, append_assoc) (set_at made zero (replicate (n - (i + 1)) zero) b i many)

  pub filled-whole : (i : ℕ) (array : List B) → length from ≤ i → array ≡ filled make n zero from i → array ≡ padded n zero (map make from)
  filled-whole i array h e = e ∙ ap (λ (l : List A). padded n zero (map make l)) (take_all i from h)
