-- docs/CONSOLE.md: one command a line. A newline (10) ends a
-- line, and one that is longer than its room is no command.
use Rattle.std.specs.Prelude.{false, not, cond, List, [], ◌∷◌, ◌++◌, ℕ, eqb, ltb, length, take}
use Rattle.std.specs.Prelude.{Option, None, Some}
use Rattle.console_words.specs.Said.{says◌if◌}
use Rattle.commands.specs.declared.serving.Gathered.{Gathered}

-- A line of which nothing is read.
abbrev pub begun : Gathered
begun = record { length = 0; long = false }

-- The bytes of a line so far; nothing if it is too long.
abbrev pub come_said : List ℕ → Gathered → Option (List ℕ)
come_said line g = says take g.length line if not g.long

-- One more byte.
abbrev pub more : ℕ → Option (List ℕ) → ℕ → Option (List ℕ)
more room None b = None
more room (Some come) b = says come ++ (b ∷ []) if ltb (length come) room

-- A line's end begins the next line.
abbrev pub next : ℕ → Option (List ℕ) → ℕ → Option (List ℕ)
next room come b = cond (eqb b 10) (Some []) (more room come b)

-- The bytes of a line after a block.
abbrev pub after : ℕ → Option (List ℕ) → List ℕ → Option (List ℕ)
after room come [] = come
after room come (b ∷ block) = after room (next room come b) block
