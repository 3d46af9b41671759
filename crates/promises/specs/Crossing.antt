-- Document 02, Note 9: tables by physical point. "the crossing itself is what a user relies on".
-- The fraction of a reading is "the least whole q for which q plus the exact deviation at q is
-- at least p", over the points as stored. So every number from q on meets p, and none below.
use Rattle.std.specs.Prelude.{Some, ◌≡◌, List, map, ◌↔◌, ℕ, ℤ, ◌≤ℤ◌}
use Rattle.refusal.specs.Outcome.{Ok}
use Rattle.templates.specs.declared.Pair.{Pair}
use Rattle.templates.specs.declared.Domain.TheVariants.{Physical}
use Rattle.layout.specs.Contents.{Contents}
use Rattle.layout.specs.Image.{contents, points}
use Rattle.sheet.specs.Check.{domain_in}
use Rattle.build.specs.declared.Sheet.{Sheet}
use Rattle.build.specs.Build.{pairs_lent, build}
use Rattle.correction.specs.Crossing.{Meets, Crossing}
use Rattle.reading.specs.declared.Dash.{Dash}
use Rattle.reading.specs.declared.Reading.{Reading}
use Rattle.reading.specs.Reading.{position, take_reading}
use Rattle.promises.specs.Lent.{Lendable}
use Rattle.promises.specs.Again.{kept_pair}
use Rattle.promises.specs.Alterations.{Alteration, RealAlterations, altered}
use Rattle.promises.specs.Certificate.{least_in, greatest_in}

-- q is the crossing of p, nothing else is, and any whole
-- number k plus its deviation is at least p exactly if q ≤ k.
pub record OnlyCrossing (stored : List Pair) (p q : ℤ) : Type 0 where
  pub is : Crossing stored p q
  pub only : (k : ℤ) → Crossing stored p k → k ≡ q
  pub from : (k : ℤ) → Meets stored p k ↔ q ≤ℤ k

-- p, as a reading computes it from an image and an input.
abbrev pub position_in : ℕ → List ℕ → ℤ → ℤ
position_in kind image v = position v (least_in kind image) (greatest_in kind image)

-- For every image that is accepted with a table of domain 1.
abbrev pub CrossingShown : Type 0
CrossingShown =
    (kind : ℕ) (image : List ℕ) (c : Contents) (v : ℤ) (dash : Dash) (r : Reading) →
    contents kind image ≡ Ok c → domain_in c.calibration ≡ Some Physical → take_reading kind image v dash ≡ Ok r →
    OnlyCrossing (points c) (position_in kind image v) r.fraction

-- From the points lent: if
-- - a build in domain 1 is accepted, and
-- - a reading of that image is accepted, after any
--   one-field changes and commits, accepted or refused,
-- then it shows the crossing over the lent points, each as its step keeps it.
abbrev pub CrossingFromLent : Type 0
CrossingFromLent =
    (kind : ℕ) (buffer : List ℕ) (sheet : Sheet) (text : List ℕ) (pointsLent : List ℤ) (built : List ℕ) →
    (alterations : List Alteration) (readingKind : ℕ) (v : ℤ) (dash : Dash) (r : Reading) →
    Lendable sheet → RealAlterations alterations →
    build kind buffer sheet text Physical pointsLent ≡ Ok built →
    let image = altered built alterations in
    take_reading readingKind image v dash ≡ Ok r →
    OnlyCrossing (map kept_pair (pairs_lent pointsLent)) (position_in readingKind image v) r.fraction
