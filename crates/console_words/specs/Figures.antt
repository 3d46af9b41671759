-- The decimal numbers of a console line: field numbers, indices,
-- pages and codes are numbers; figures and inputs have a sign.
use Rattle.std.specs.Prelude.{Bool, true, ◌&&◌, cond, List, [], ◌∷◌, map, ℕ, ◌+◌, ◌-◌, ◌*◌, ◌^◌, eqb, leb, ltb, ℤ, pos, neg_ℤ}
use Rattle.std.specs.Prelude.{Option, None, Some}
use Rattle.console_words.specs.Words.{is_minus, pieces}
use Rattle.console_words.specs.Said.{says◌if◌}

-- The characters 0 (48) to 9 (57).
abbrev pub is_digit : ℕ → Bool
is_digit b = leb 48 b && leb b 57

abbrev pub all_digits : List ℕ → Bool
all_digits [] = true
all_digits (b ∷ word) = is_digit b && all_digits word

-- The number that digits spell, after others that spell n.
abbrev pub spelling : ℕ → List ℕ → ℕ
spelling n [] = n
spelling n (b ∷ word) = spelling (10 * n + (b - 48)) word

-- A number with one more digit, if the character is a digit and the number fits 64 bits.
abbrev pub longer : ℕ → ℕ → Option ℕ
longer n b = says 10 * n + (b - 48) if is_digit b && ltb (10 * n + (b - 48)) (2 ^ 64)

-- A word of one or more digits spells a number, if it fits 64 bits.
abbrev pub number : List ℕ → Option ℕ
number [] = None
number (b ∷ word) = says spelling 0 (b ∷ word) if all_digits (b ∷ word) && ltb (spelling 0 (b ∷ word)) (2 ^ 64)

-- A figure is an i64, −2^63 to 2^63 − 1: a number without a minus, and with one.
abbrev pub above : Option ℕ → Option ℤ
above None = None
above (Some n) = says pos n if ltb n (2 ^ 63)

abbrev pub below : Option ℕ → Option ℤ
below None = None
below (Some n) = says neg_ℤ (pos n) if leb n (2 ^ 63)

-- A number, with or without a minus (45) before it.
abbrev pub figure : List ℕ → Option ℤ
figure [] = None
figure (b ∷ word) = cond (eqb b 45) (below (number word)) (above (number (b ∷ word)))

-- Figures separated by commas (44); a minus alone has none.
abbrev pub figures : List ℕ → List (Option ℤ)
figures word = cond (is_minus word) [] (map figure (pieces 44 word))
