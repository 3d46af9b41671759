-- A writer's level, as a word of a console line names it.
use Rattle.std.specs.Prelude.{cond, List, [], ◌∷◌, ℕ}
use Rattle.std.specs.Prelude.{Option, None, Some}
use Rattle.texts.specs.Text.{same}
use Rattle.templates.specs.declared.Level.{Level}
use Rattle.templates.specs.declared.Level.TheVariants.{Owner, CalibrationRoom, Maker}

-- The letters o w n e r, c a l i b r a t i o n and m a k e r.
abbrev pub owner : List ℕ
owner = 111 ∷ 119 ∷ 110 ∷ 101 ∷ 114 ∷ []

abbrev pub calibration : List ℕ
calibration = 99 ∷ 97 ∷ 108 ∷ 105 ∷ 98 ∷ 114 ∷ 97 ∷ 116 ∷ 105 ∷ 111 ∷ 110 ∷ []

abbrev pub maker : List ℕ
maker = 109 ∷ 97 ∷ 107 ∷ 101 ∷ 114 ∷ []

-- Any other word names none.
abbrev pub level : List ℕ → Option Level
level word =
    cond (same word owner) (Some Owner)
    (cond (same word calibration) (Some CalibrationRoom)
    (cond (same word maker) (Some Maker) None))
