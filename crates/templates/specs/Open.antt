-- Only inner contracts need this: fields whose every code is accepted.
use Rattle.std.specs.Prelude.{ℕ, ◌≤◌, ◌<◌}
use Rattle.templates.specs.declared.Template.{Template}
use Rattle.templates.specs.Lines.{line_of}
use Rattle.codes.specs.Validity.{Open}

-- The fields after one, up to another, can hold every code, whatever the choice.
abbrev pub OpenBehind : Template → ℕ → ℕ → Type 0
OpenBehind template closed last = (latest f : ℕ) → closed < f → f ≤ last → Open ((line_of template f).row_at latest)
