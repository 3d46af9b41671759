-- The tables of names, units and reasons: rows are lines, and a semicolon (59) separates columns.
use Rattle.std.specs.Prelude.{List, ℕ}
use Rattle.console_words.specs.Words.{piece_at}

-- Empty if there is no such row or column.
abbrev pub entry_of : List ℕ → ℕ → ℕ → List ℕ
entry_of table row column = piece_at 59 column (piece_at 10 row table)
