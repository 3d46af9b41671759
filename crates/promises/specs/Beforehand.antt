-- Demand 3, known beforehand: the distance from the points alone
-- holds for every reading of every sheet that is built from them.
use Rattle.std.specs.Prelude.{◌≡◌, List, ℕ, ◌*◌, ◌≤◌, ℤ, pos, nat_abs, ◌-ℤ◌, ◌*ℤ◌}
use Rattle.integers.specs.Nearest.{Fraction}
use Rattle.refusal.specs.Outcome.{Ok}
use Rattle.templates.specs.declared.Domain.TheVariants.{Electrical}
use Rattle.build.specs.declared.Sheet.{Sheet}
use Rattle.build.specs.Build.{build}
use Rattle.distance.specs.declared.CertificateBound.{CertificateBound}
use Rattle.distance.specs.Distance.{distance}
use Rattle.reading.specs.declared.Dash.{Dash}
use Rattle.reading.specs.declared.Reading.{Reading}
use Rattle.reading.specs.Reading.{take_reading}
use Rattle.promises.specs.Lent.{Lendable}
use Rattle.promises.specs.Alterations.{Alteration, RealAlterations, altered}
use Rattle.promises.specs.Certificate.{least_in, greatest_in, line_for}

-- There is a distance for every list that a build in domain 0 accepts, whatever else is lent.
abbrev pub ToldWhereBuilt : Type 0
ToldWhereBuilt =
    (kind : ℕ) (buffer : List ℕ) (sheet : Sheet) (text : List ℕ) (points : List ℤ) (built : List ℕ) →
    build kind buffer sheet text Electrical points ≡ Ok built → (d : CertificateBound) × (distance points ≡ Ok d)

-- q is at most B / 2000 billionths of the span from a point of the line, multiplied out.
abbrev pub StraysAtMost : ℕ → ℤ → Fraction → Type 0
StraysAtMost B q line = 2000 * nat_abs (q *ℤ pos line.den -ℤ line.num) ≤ B * line.den

-- Whatever else is lent, on either dash: if
-- - the build from these points in domain 0 is accepted, and
-- - a reading of that image is accepted, after any changes and commits, accepted or refused,
-- then q is within the known distance of the certificate line.
abbrev pub DistanceBeforehand : Type 0
DistanceBeforehand =
    (kind : ℕ) (buffer : List ℕ) (sheet : Sheet) (text : List ℕ) (points : List ℤ) (built : List ℕ) →
    (alterations : List Alteration) (readingKind : ℕ) (v : ℤ) (dash : Dash) (r : Reading) (d : CertificateBound) →
    distance points ≡ Ok d → Lendable sheet → RealAlterations alterations →
    build kind buffer sheet text Electrical points ≡ Ok built →
    let image = altered built alterations in
    take_reading readingKind image v dash ≡ Ok r →
    StraysAtMost d.bound r.fraction (line_for points v (least_in readingKind image) (greatest_in readingKind image))
