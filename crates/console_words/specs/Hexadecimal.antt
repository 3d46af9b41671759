-- Bytes as lower-case hexadecimal digits, the high one first: images and texts of a console line.
use Rattle.std.specs.Prelude.{◌&&◌, cond, List, [], ◌∷◌, ℕ, ◌+◌, ◌-◌, ◌*◌, ◌/◌, ◌%◌, leb, ltb}
use Rattle.std.specs.Prelude.{Option, None}
use Rattle.console_words.specs.Words.{is_minus}
use Rattle.console_words.specs.Said.{says◌if◌}

-- The value of a digit: the characters 0 (48) to 9
-- (57), then a (97) to f (102). Any other has value 16.
abbrev pub counts : ℕ → ℕ
counts b = cond (leb 48 b && leb b 57) (b - 48) (cond (leb 97 b && leb b 102) (b - 87) 16)

-- The same, of a digit alone.
abbrev pub value_of : ℕ → Option ℕ
value_of b = says counts b if ltb (counts b) 16

-- The digit of value n, for n below 16.
abbrev pub digit_of : ℕ → ℕ
digit_of n = cond (ltb n 10) (48 + n) (87 + n)

-- The byte of two digits.
abbrev pub byte_of : ℕ → ℕ → Option ℕ
byte_of high low = says 16 * counts high + counts low if ltb (counts high) 16 && ltb (counts low) 16

-- The bytes of pairs of digits; a digit alone is no byte.
abbrev pub paired : List ℕ → List (Option ℕ)
paired [] = []
paired (high ∷ []) = None ∷ []
paired (high ∷ low ∷ word) = byte_of high low ∷ paired word

-- A minus (45) alone has no bytes; an empty word is not valid.
abbrev pub bytes : List ℕ → List (Option ℕ)
bytes [] = None ∷ []
bytes (b ∷ word) = cond (is_minus (b ∷ word)) [] (paired (b ∷ word))

-- Two digits for each byte.
abbrev pub digits : List ℕ → List ℕ
digits [] = []
digits (b ∷ bytes) = digit_of (b / 16) ∷ digit_of (b % 16) ∷ digits bytes

-- The digits of bytes; a minus for no bytes.
abbrev pub spelt : List ℕ → List ℕ
spelt [] = 45 ∷ []
spelt (b ∷ bytes) = digits (b ∷ bytes)
