-- docs/CONSOLE.md: the dash for a reading, as a word names it.
use Rattle.std.specs.Prelude.{cond, List, [], ◌∷◌, ℕ}
use Rattle.std.specs.Prelude.{Option, None, Some}
use Rattle.texts.specs.Text.{same}
use Rattle.reading.specs.declared.Dash.{Dash}
use Rattle.reading.specs.declared.Dash.TheVariants.{Large, Small}

-- The letters l a r g e and s m a l l.
abbrev pub large : List ℕ
large = 108 ∷ 97 ∷ 114 ∷ 103 ∷ 101 ∷ []

abbrev pub small : List ℕ
small = 115 ∷ 109 ∷ 97 ∷ 108 ∷ 108 ∷ []

-- Any other word names none.
abbrev pub dash : List ℕ → Option Dash
dash word = cond (same word large) (Some Large) (cond (same word small) (Some Small) None)
