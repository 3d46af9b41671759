-- Several words of a line, or several pieces of a list, together.
use Rattle.std.specs.Prelude.{List, [], ◌∷◌, ℕ, zero, suc, leb, length, take}
use Rattle.std.specs.Prelude.{Option, None, Some}
use Rattle.console_words.specs.Said.{says◌if◌, every, written, is_whole}

-- The value of one word goes into the next step; if one has none, the whole has none.
infixl 1 ◌>>=◌
abbrev pub ◌>>=◌ : {A B : Type 0} → Option A → (A → Option B) → Option B
None >>= next = None
Some a >>= next = next a

-- The values at n indices, from this one on.
abbrev pub items : {A : Type 0} → (ℕ → Option A) → ℕ → ℕ → List (Option A)
items item zero index = []
items item (suc n) index = item index ∷ items item n (suc index)

-- An array that begins with all values, and keeps its other
-- elements. Nothing if a value is missing, or there is no room.
abbrev pub arrayed : {A : Type 0} → List (Option A) → List A → Option (List A)
arrayed said first = says written said first if is_whole said first

-- All of them, where a room holds so many. Nothing where one says nothing.
unfoldable pub within : {A : Type 0} → ℕ → List (Option A) → Option (List A)
within room said = do
  all ← every said
  says all if leb (length all) room

-- The first elements of a room, where all of them were put there.
abbrev pub front_said : {A : Type 0} → Option ℕ → List A → Option (List A)
front_said (Some n) room = Some (take n room)
front_said None room = None
