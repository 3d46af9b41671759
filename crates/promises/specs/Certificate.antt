-- Demand 3, the certificate distance: "a single claim, from the points lent to the q returned".
use Rattle.std.specs.Prelude.{◌≡◌, List, [], ◌∷◌, ℕ, ℤ, pos, nat_abs, ◌-ℤ◌, ◌*ℤ◌, ◌<ℤ◌}
use Rattle.integers.specs.Nearest.{Fraction}
use Rattle.refusal.specs.Outcome.{Outcome, Ok, Err}
use Rattle.codes.specs.declared.Value.{Value}
use Rattle.templates.specs.declared.Domain.{Domain}
use Rattle.templates.specs.declared.Domain.TheVariants.{Electrical, Physical}
use Rattle.templates.specs.Calibration.{D, R}
use Rattle.codes.specs.Units.{billion}
use Rattle.sheet.specs.Check.{read_field}
use Rattle.build.specs.declared.Sheet.{Sheet}
use Rattle.build.specs.Build.{pairs_lent, build}
use Rattle.reading.specs.declared.Dash.{Dash}
use Rattle.reading.specs.declared.Reading.{Reading}
use Rattle.correction.specs.Certificate.{Rises, Slopes, Within}
use Rattle.correction.specs.Line.{certificate_line}
use Rattle.reading.specs.Reading.{electrical_figure, take_reading}
use Rattle.promises.specs.Lent.{Lendable}
use Rattle.promises.specs.Alterations.{Alteration, RealAlterations, altered}

-- An electrical value as read, in whole nV/V: a Single to the nearest.
abbrev pub whole : Outcome Value → ℤ
whole (Ok v) = electrical_figure v
whole (Err r) = pos 0

-- e and f "as that reading reads them from the image".
abbrev pub least_in : ℕ → List ℕ → ℤ
least_in kind image = whole (read_field kind image 10)

abbrev pub greatest_in : ℕ → List ℕ → ℤ
greatest_in kind image = whole (read_field kind image 11)

-- The exact certificate line through the points "as
-- lent", at x = "(v − e) × 1,000,000,000 / (f − e)".
abbrev pub line_for : List ℤ → ℤ → ℤ → ℤ → Fraction
line_for points v e f = certificate_line (pairs_lent points) ((v -ℤ e) *ℤ pos billion) (nat_abs (f -ℤ e))

-- "The distance in the third demand is for domain 0", and for an empty list, which has no domain.
abbrev pub Straight : Domain → List ℤ → Type 0
Straight domain [] = Unit {0}
Straight Electrical (x ∷ points) = Unit {0}
Straight Physical (x ∷ points) = ⊥

-- For all points, fields, kinds of chip, buffers and inputs, on either dash: if
-- - the build is accepted, and
-- - a reading of that image is accepted, after any
--   one-field changes and commits, accepted or refused,
-- then q is within the distance of the certificate line.
abbrev pub CertificateDistance : Type 0
CertificateDistance =
    (kind : ℕ) (buffer : List ℕ) (sheet : Sheet) (text : List ℕ) (domain : Domain) (points : List ℤ) (built : List ℕ) →
    (alterations : List Alteration) (readingKind : ℕ) (v : ℤ) (dash : Dash) (r : Reading) (K : ℕ) →
    Lendable sheet → RealAlterations alterations → Straight domain points →
    build kind buffer sheet text domain points ≡ Ok built →
    let image = altered built alterations in
    take_reading readingKind image v dash ≡ Ok r →
    Slopes K (pairs_lent points) →
    Within D R K r.fraction (line_for points v (least_in readingKind image) (greatest_in readingKind image))

-- ---- the factors are "all above 0 once build and reading are accepted"

-- The points of an accepted build rise strictly as lent, so that every run b − a is above 0.
abbrev pub LentPointsRise : Type 0
LentPointsRise =
    (kind : ℕ) (buffer : List ℕ) (sheet : Sheet) (text : List ℕ) (domain : Domain) (points : List ℤ) (built : List ℕ) →
    build kind buffer sheet text domain points ≡ Ok built → Rises (pairs_lent points)

-- In an accepted reading e is below f, so that f − e is above 0.
abbrev pub EndsRise : Type 0
EndsRise =
    (kind : ℕ) (image : List ℕ) (v : ℤ) (dash : Dash) (r : Reading) → take_reading kind image v dash ≡ Ok r → least_in kind image <ℤ greatest_in kind image

-- The absolute values of runs and of f − e are then the differences themselves.
abbrev pub DifferenceAbove : Type 0
DifferenceAbove = (a b : ℤ) → a <ℤ b → pos (nat_abs (b -ℤ a)) ≡ b -ℤ a
