-- The value of a field, as a word of a console line spells
-- it: a whole number, a Single by its bits, or missing.
use Rattle.std.specs.Prelude.{cond, List, [], ◌∷◌, ℕ, ◌+◌, ◌*◌, eqb, length}
use Rattle.std.specs.Prelude.{Option, None, Some, option_map}
use Rattle.std.specs.Float.{binary32}
use Rattle.std.specs.Float.Ieee.{of_bits}
use Rattle.codes.specs.declared.Value.{Value}
use Rattle.codes.specs.declared.Value.TheVariants.{Whole, Single, Missing}
use Rattle.console_words.specs.Said.{says◌if◌, every}
use Rattle.console_words.specs.Figures.{figure}
use Rattle.console_words.specs.Hexadecimal.{bytes}

-- The number that bytes spell, the high one first, after others that spell n.
abbrev pub high_first : ℕ → List ℕ → ℕ
high_first n [] = n
high_first n (b ∷ bytes) = high_first (256 * n + b) bytes

-- Four bytes are a Single's bits, of any pattern. All NaN patterns give one NaN.
abbrev pub single : Option (List ℕ) → Option Value
single None = None
single (Some bytes) = says Single (of_bits binary32 (high_first 0 bytes)) if eqb (length bytes) 4

-- `m` alone.
abbrev pub missing : List ℕ → Option Value
missing [] = Some Missing
missing (b ∷ word) = None

-- `w` (119) and a figure, `s` (115) and eight digits, or `m` (109).
abbrev pub value : List ℕ → Option Value
value [] = None
value (letter ∷ word) =
    cond (eqb letter 119) (option_map Whole (figure word))
    (cond (eqb letter 115) (single (every (bytes word)))
    (cond (eqb letter 109) (missing word) None))
