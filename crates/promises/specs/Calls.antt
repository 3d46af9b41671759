-- Demand 3 on the calls themselves: a build, any number of changes, and a reading. Their
-- answers, the image then, and the distance of the returned q from the certificate line.
use Rattle.refusal.specs.Outcome.{Ok}
use Rattle.std.specs.Prelude.{◌≡◌, List, ℕ, ℤ}
use Rattle.refusal.specs.Written.{written_said, afterwards}
use Rattle.templates.specs.declared.Domain.{Domain}
use Rattle.templates.specs.Calibration.{D, R}
use Rattle.build.specs.declared.Sheet.{Sheet}
use Rattle.build.specs.Build.{pairs_lent, build}
use Rattle.correction.specs.Certificate.{Slopes, Within}
use Rattle.reading.specs.declared.Dash.{Dash}
use Rattle.reading.specs.declared.Reading.{Reading}
use Rattle.reading.specs.Reading.{take_reading}
use Rattle.promises.specs.declared.Answers.{Answers}
use Rattle.promises.specs.Alterations.{Alteration, altered}
use Rattle.promises.specs.Certificate.{least_in, greatest_in, line_for, Straight}

module _ (kind : ℕ) (buffer : List ℕ) (sheet : Sheet) (text : List ℕ) (domain : Domain) (points : List ℤ) where
  -- The image after the build.
  abbrev pub made : List ℕ
  made = afterwards buffer (build kind buffer sheet text domain points)

  -- Each call answers by its definition, accepted or refused; the image is
  -- what build and alterations leave, and the reading is of that image. If the
  -- build and the reading were accepted, the returned q is within the distance
  -- of the certificate line through the points lent in domain 0, for every K.
  pub record Answered (alterations : List Alteration) (readingKind : ℕ) (v : ℤ) (dash : Dash) (image : List ℕ) (r : Answers) : Type 0 where
    pub build_said : written_said r.built made ≡ build kind buffer sheet text domain points
    pub bytes : image ≡ altered made alterations
    pub shown : r.reading ≡ take_reading readingKind image v dash
    pub distance : (q : Reading) (K : ℕ) → Straight domain points → r.built ≡ (Ok tt) → r.reading ≡ Ok q → Slopes K (pairs_lent points) →
        Within D R K q.fraction (line_for points v (least_in readingKind image) (greatest_in readingKind image))
