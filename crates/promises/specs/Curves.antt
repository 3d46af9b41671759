-- Document 02, Note 11: the segment that serves, and the powers that a curve does not have.
use Rattle.std.specs.Prelude.{◌≡◌, List, [], ◌∷◌, ◌++◌, ℕ, ◌-◌, ℤ, length, replicate, Float, ◌≤ℤ◌, ◌<ℤ◌}
use Rattle.refusal.specs.Outcome.{Ok}
use Rattle.templates.specs.declared.Term.{Term}
use Rattle.layout.specs.Contents.{FoundSegment, curve, Contents}
use Rattle.layout.specs.Image.{contents, segment_in}
use Rattle.correction.specs.Curve.{float_zero, coefficients, fraction_by, fraction_of}
use Rattle.reading.specs.declared.Dash.{Dash}
use Rattle.reading.specs.declared.Reading.{Reading}
use Rattle.reading.specs.Reading.{serving, serving_terms, take_reading}

-- "The segment is the last one whose start in billionths is at
-- or below p." Before the first start the first one serves.

abbrev pub start_of : FoundSegment → ℤ
start_of s = (segment_in s).start

-- Starts rise strictly, as a check requires.
abbrev pub StartsRise : List FoundSegment → Type 0
StartsRise [] = Unit {0}
StartsRise (s ∷ []) = Unit {0}
StartsRise (s ∷ next ∷ segments) = (start_of s <ℤ start_of next) × StartsRise (next ∷ segments)

-- Every start is above p.
abbrev pub AllAbove : ℤ → List FoundSegment → Type 0
AllAbove p [] = Unit {0}
AllAbove p (s ∷ segments) = (p <ℤ start_of s) × AllAbove p segments

-- x is a segment of the curve, those after it start above p, and it
-- starts at or below p. If p is before the first start, x is the first.
pub record Serves (p : ℤ) (first : FoundSegment) (segments : List FoundSegment) (x : FoundSegment) : Type 0 where
  pub before : List FoundSegment
  pub after : List FoundSegment
  pub is : first ∷ segments ≡ before ++ (x ∷ after)
  pub above : AllAbove p after
  pub reached : start_of first ≤ℤ p → start_of x ≤ℤ p
  pub early : p <ℤ start_of first → x ≡ first

abbrev pub LastSegmentServes : Type 0
LastSegmentServes = (p : ℤ) (first : FoundSegment) (segments : List FoundSegment) → StartsRise (first ∷ segments) → Serves p first segments (serving p first segments)

-- The starts of every accepted curve rise.
abbrev pub CurveStartsRise : Type 0
CurveStartsRise = (kind : ℕ) (image : List ℕ) (c : Contents) (segments : List FoundSegment) → contents kind image ≡ Ok c → c.calibration ≡ curve segments → StartsRise segments

-- "absent powers as 0": a coefficient for each power up to the fifth.
abbrev pub up_to_the_fifth : List Term → List Float
up_to_the_fifth terms = let own = coefficients 0 terms in own ++ replicate (6 - length own) float_zero

-- The nested rule from the fifth power gives the same float fraction as from the
-- highest. (A correction of float_zero may differ in its sign; the fraction does not.)
abbrev pub FromTheFifth : Type 0
FromTheFifth =
    (kind : ℕ) (image : List ℕ) (c : Contents) (segments : List FoundSegment) (v : ℤ) (dash : Dash) (r : Reading) → contents kind image ≡ Ok c → c.calibration ≡ curve segments →
    take_reading kind image v dash ≡ Ok r →
    let terms = serving_terms r.fraction segments in
    fraction_by (up_to_the_fifth terms) r.fraction ≡ fraction_of terms r.fraction
