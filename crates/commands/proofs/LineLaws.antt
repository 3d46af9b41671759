-- Laws of words in order, and of an array that is filled with their values.
use Rattle.commands.proofs.Names.{◌≡◌, refl, sym, ap, ◌∙◌, Bool, true, false, List, [], ◌∷◌, Option, None, Some, ℕ, zero, suc, ◌+◌, ◌-◌, ◌≤◌, ◌<◌, sub-zero, add-zero, arith, length, set, take-append-drop, Filling}
use Rattle.commands.proofs.Names.{fill_start, fill_on, whole_room, Option, Some, None, filled, filled_said, kind_of, chip_of, is_whole, items, arrayed}

-- The value of a word, from the case of an answer.
pub meant : {W O : Type 0} (meaning : W → O) {r x : O} {word w : W} → r ≡ x → r ≡ meaning word → word ≡ w → x ≡ meaning w
meant meaning k e f = sym k ∙ e ∙ ap meaning f

-- ---- the kind and the image

module _ (kind : ℕ) (said : List (Option ℕ)) (first : List ℕ) {held : List ℕ} {r : Option ℕ} (e : filled_said r held ≡ filled said first) where
  pub lent-not : r ≡ None → record { chip = None; room = held } ≡ chip_of kind (filled said first)
  lent-not k = rw (← e, k)

  pub lent_is : {n k : ℕ} → r ≡ Some n → k ≡ kind_of kind → record { chip = Some (record { kind = k; length = n }); room = held } ≡ chip_of kind (filled said first)
  lent_is i j = rw (← e, i, j)

-- ---- an array

module _ {A : Type 0} (item : ℕ → Option A) where
  pub items-long : (n index : ℕ) → length (items item n index) ≡ n
  items-long zero index = refl
  items-long (suc n) index = ap suc (items-long n (suc index))

  -- Of n values from an index on, those after the first `at`.
  abbrev pub left : ℕ → ℕ → ℕ → List (Option A)
  left n from at = items item (n - at) (from + at)

  left-next : (n from at : ℕ) → at < n → left n from at ≡ item (from + at) ∷ left n from (at + 1)
  left-next n from at h =
      let e : n - at ≡ suc (n - (at + 1)) = omega arith in
      let f : suc (from + at) ≡ from + (at + 1) = omega arith in
      rw (e, f)

  left-none : (n from at : ℕ) → n ≤ at → left n from at ≡ []
  left-none n from at h =
      let e : n - at ≡ 0 = omega arith in
      rw e

  module _ (first : List A) (n from : ℕ) where
    -- An array that holds the first `at` values.
    abbrev pub Arraying : List A → ℕ → Type 0
    Arraying out at = Filling (items item n from) first out at (left n from at)

    pub array-start : Arraying first 0
    array-start = rw (sub-zero n, add-zero from) (fill_start (items item n from) first)

    pub array-short : length first < n → None ≡ arrayed (items item n from) first
    array-short h = go (is_whole (items item n from) first) refl
      where
        go : (b : Bool) → is_whole (items item n from) first ≡ b → None ≡ arrayed (items item n from) first
        go true e = absurd (omega (arith, whole_room (items item n from) first e, items-long n from))
        go false e = rw e

    module _ (out : List A) (at : ℕ) (f : Arraying out at) where
      pub array-on : at < n → at < length out → (a : A) → Some a ≡ item (from + at) → Arraying (set out at a) (at + 1)
      array-on h l a e = fill_on (items item n from) first out at (left n from at) f a (left n from (at + 1)) (rw e (left-next n from at h)) l

      pub array-stop : at < n → None ≡ item (from + at) → None ≡ arrayed (items item n from) first
      array-stop h e = rw (← f.whole, left-next n from at h, ← e)

      pub array-end : n ≤ at → Some out ≡ arrayed (items item n from) first
      array-end h = rw (← f.whole, ← f.all, left-none n from at h, take-append-drop at out)
