-- docs/CONSOLE.md: the answer to `build`, from the line's words. A line that is no such command
-- has no answer. A room is how many bytes or figures a word may spell.
use Rattle.std.specs.Prelude.{cond, List, ℕ, take}
use Rattle.std.specs.Prelude.{Option, None, Some}
use Rattle.refusal.specs.Outcome.{Outcome}
use Rattle.refusal.specs.Written.{written_said}
use Rattle.templates.specs.Calibration.{domain_of}
use Rattle.build.specs.declared.Sheet.{Sheet}
use Rattle.build.specs.Build.{build, build_curve}
use Rattle.commands.specs.declared.builds.Head.{Head}
use Rattle.commands.specs.Builds.{end_bit_word, has_curve, head, sheet, text_in, domain_in, points_in, curve_in}
use Rattle.commands.specs.Lists.{◌>>=◌, within}

-- TEXT DOMAIN POINTS, after the end bit.
abbrev pub from_points : ℕ → List ℕ → Sheet → ℕ → ℕ → List ℕ → ℕ → Option (Outcome (List ℕ))
from_points kind image sheet textRoom pointRoom line end = do
  domain ← domain_in line end
  text ← within textRoom (text_in line end)
  points ← within pointRoom (points_in line end)
  Some (build kind image sheet text (domain_of domain) points)

-- TEXT `curve` COUNT SEGMENTS TERMS, after the end bit.
abbrev pub from_curve : ℕ → List ℕ → Sheet → ℕ → List ℕ → ℕ → Option (Outcome (List ℕ))
from_curve kind image sheet textRoom line end = do
  text ← within textRoom (text_in line end)
  curve ← curve_in line end
  Some (build_curve kind image sheet text curve)

abbrev pub built_by : List ℕ → ℕ → ℕ → List ℕ → Head → Sheet → Option (Outcome (List ℕ))
built_by image textRoom pointRoom line head sheet =
    let end = end_bit_word head.template in
    cond (has_curve line end) (from_curve head.kind image sheet textRoom line end)
    (from_points head.kind image sheet textRoom pointRoom line end)

-- The buffer that is written has LENGTH bytes, or all of the room's if it has fewer.
abbrev pub build_reply : List ℕ → ℕ → ℕ → List ℕ → Option (Outcome (List ℕ))
build_reply room textRoom pointRoom line = do
  head ← head line
  sheet ← sheet line head.template head.level
  built_by (take head.length room) textRoom pointRoom line head sheet

abbrev pub built_said : Option (Outcome (Unit {0})) → List ℕ → Option (Outcome (List ℕ))
built_said (Some answer) image = Some (written_said answer image)
built_said None image = None
