-- Only inner contracts need this: fields judged at their places, without parsing those before them.
use Rattle.std.specs.Prelude.{List, [], ◌∷◌, ℕ, ◌+◌, ◌-◌, length, take}
use Rattle.refusal.specs.Outcome.{Outcome, Ok, ◌>>◌}
use Rattle.memory.specs.Bits.{field_at}
use Rattle.templates.specs.declared.Template.{Template}
use Rattle.codes.specs.Validity.{judge}
use Rattle.templates.specs.Lines.{Line, template_lines}
use Rattle.layout.specs.Format.{Stream}

-- The test of the codes from a place on, by the rows of these lines at a choice.
abbrev pub judged : Stream → List Line → ℕ → ℕ → Outcome (Unit {0})
judged s [] choice at = Ok tt
judged s (l ∷ lines) choice at =
    let row = l.row_at choice in judge row at (field_at s.number at row.width) >> judged s lines choice (at + row.width)

-- A template's own lines but the last.
abbrev pub front_lines : Template → List Line
front_lines t = take (length (template_lines t) - 1) (template_lines t)
