-- The words of a console line, as docs/CONSOLE.md has them: one space separates them.
-- The pieces of a list are found by the same definitions, with another separator.
use Rattle.std.specs.Prelude.{Bool, false, cond, List, [], ◌∷◌, ℕ, eqb, length, get_or}

-- One more byte in front of the first piece.
abbrev pub before : ℕ → List (List ℕ) → List (List ℕ)
before b [] = (b ∷ []) ∷ []
before b (piece ∷ pieces) = (b ∷ piece) ∷ pieces

-- The pieces between separators, one more than there are separators; a piece may be empty.
abbrev pub pieces : ℕ → List ℕ → List (List ℕ)
pieces separator [] = [] ∷ []
pieces separator (b ∷ line) = cond (eqb b separator) ([] ∷ pieces separator line) (before b (pieces separator line))

-- Whether a word is a minus (45) alone, which means an empty one.
abbrev pub is_minus : List ℕ → Bool
is_minus [] = false
is_minus (b ∷ []) = eqb b 45
is_minus (b ∷ c ∷ word) = false

abbrev pub piece_count : ℕ → List ℕ → ℕ
piece_count separator line = length (pieces separator line)

-- The words of a line, separated by one space (32).
abbrev pub word_count : List ℕ → ℕ
word_count line = piece_count 32 line

-- The piece of an index, from 0; empty if the line has no such piece.
abbrev pub piece_at : ℕ → ℕ → List ℕ → List ℕ
piece_at separator index line = get_or (pieces separator line) index []

abbrev pub word_at : ℕ → List ℕ → List ℕ
word_at index line = piece_at 32 index line
