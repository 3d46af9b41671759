-- docs/CONSOLE.md: a line's kind is any number. One that does not
-- fit a byte is answered like any other that is no kind of chip.
use Rattle.std.specs.Prelude.{cond, ℕ, ltb}

abbrev pub kind_of : ℕ → ℕ
kind_of n = cond (ltb 255 n) 255 n
