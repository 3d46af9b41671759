-- What a word of a console line means, or nothing; and the contents of a lent buffer afterwards.
use Rattle.std.specs.Prelude.{Bool, true, false, cond, List, [], ◌∷◌, ℕ, zero, suc, length}
use Rattle.std.specs.Prelude.{Option, None, Some}

-- A value, if a test holds.
infix 2 says◌if◌
abbrev pub says◌if◌ : {A : Type 0} → A → Bool → Option A
says◌if◌ a true = Some a
says◌if◌ a false = None

-- One value and the rest, if both are there.
abbrev pub one : {A : Type 0} → Option A → Option (List A) → Option (List A)
one None rest = None
one (Some a) None = None
one (Some a) (Some rest) = Some (a ∷ rest)

-- All values, if each is there.
abbrev pub every : {A : Type 0} → List (Option A) → Option (List A)
every [] = Some []
every (said ∷ rest) = one said (every rest)

-- ---- a lent buffer

-- A buffer after the elements were put at its start: those before the
-- first that is none, as many as fit. The rest of it is unchanged.
abbrev pub written : {A : Type 0} → List (Option A) → List A → List A
written [] held = held
written (None ∷ said) held = held
written (Some a ∷ said) [] = []
written (Some a ∷ said) (h ∷ held) = a ∷ written said held

-- Whether each element is there, and all fit.
abbrev pub is_whole : {A : Type 0} → List (Option A) → List A → Bool
is_whole [] held = true
is_whole (None ∷ said) held = false
is_whole (Some a ∷ said) [] = false
is_whole (Some a ∷ said) (h ∷ held) = is_whole said held

-- The number of elements at a buffer's start, if all were put, and the whole buffer.
pub record Held (A : Type 0) : Type 0 where
  pub count : Option ℕ
  pub all : List A

-- All elements at the buffer's start; or none, and the buffer is unchanged.
abbrev pub filled : {A : Type 0} → List (Option A) → List A → Held A
filled said held =
    cond (is_whole said held) (record { count = Some (length said); all = written said held })
    (record { count = None; all = held })

-- Only inner contracts need these: elements put as far as they go, and counted before that.
abbrev pub begun : {A : Type 0} → List (Option A) → List A → Held A
begun said held = record { count = says length said if is_whole said held; all = written said held }

abbrev pub fits : {A : Type 0} → List (Option A) → ℕ → Bool
fits [] room = true
fits (None ∷ said) room = false
fits (Some a ∷ said) zero = false
fits (Some a ∷ said) (suc room) = fits said room

abbrev pub counted : {A : Type 0} → List (Option A) → ℕ → Option ℕ
counted said room = says length said if fits said room

abbrev pub filled_said : {A : Type 0} → Option ℕ → List A → Held A
filled_said (Some n) held = record { count = Some n; all = held }
filled_said None held = record { count = None; all = held }
