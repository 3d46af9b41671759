-- The physical figure of an accepted reading: finite, near the exact figure
-- of its fraction, and never dropping back where the fraction does not.
use Rattle.std.specs.Prelude.{Some, ◌≡◌, true, List, ℕ, ◌+◌, ◌*◌, ◌^◌, ◌≤◌, T, ℤ, pos, nat_abs, ◌-ℤ◌, ◌*ℤ◌, ◌≤ℤ◌, Float}
use Rattle.std.specs.Float.{nan}
use Rattle.std.specs.Float.Ieee.{le}
use Rattle.integers.specs.Nearest.{Fraction}
use Rattle.refusal.specs.Outcome.{Outcome, Ok, Err}
use Rattle.codes.specs.declared.Value.{Value}
use Rattle.templates.specs.declared.Domain.{Domain}
use Rattle.templates.specs.Calibration.{D, R}
use Rattle.codes.specs.Units.{billion}
use Rattle.codes.specs.Rules.{finite}
use Rattle.layout.specs.Contents.{FoundSegment, Calibration, bare, table, curve, Contents}
use Rattle.layout.specs.Image.{contents, field, float}
use Rattle.sheet.specs.Check.{read_field, domain_in}
use Rattle.build.specs.declared.Sheet.{Sheet}
use Rattle.build.specs.Build.{pairs_lent, build}
use Rattle.correction.specs.Certificate.{Slopes}
use Rattle.distance.specs.declared.CertificateBound.{CertificateBound}
use Rattle.distance.specs.Distance.{distance}
use Rattle.templates.specs.declared.Domain.TheVariants.{Electrical, Physical}
use Rattle.reading.specs.declared.Dash.{Dash}
use Rattle.reading.specs.declared.Reading.{Reading}
use Rattle.correction.specs.Curve.{fraction_of}
use Rattle.reading.specs.Reading.{serving_terms, take_reading}
use Rattle.promises.specs.Monotone.{NeverFalls}
use Rattle.figures.specs.Figures.{units, exact_figure, exact_figure_at, NearFraction}
use Rattle.promises.specs.Lent.{Lendable}
use Rattle.promises.specs.Alterations.{Alteration, RealAlterations, altered}
use Rattle.promises.specs.Certificate.{Straight, least_in, greatest_in, line_for}

abbrev pub NoCurve : Calibration → Type 0
NoCurve bare = Unit {0}
NoCurve (table domain pairs) = Unit {0}
NoCurve (curve segments) = ⊥

-- The physical ends, fields 7 and 8.
abbrev pub low : Contents → Float
low c = float (field c 7).value

abbrev pub high : Contents → Float
high c = float (field c 8).value

-- The figure is finite, and differs from the exact figure of the fraction
-- by at most 2^−53 of |low| + |high − low| · (4 · |q| + 1) / 1,000,000,000.
pub record NearTheExact (c : Contents) (r : Reading) : Type 0 where
  pub finite : finite r.figure ≡ true
  pub near : 2 ^ 53 * nat_abs (units r.figure *ℤ pos billion -ℤ exact_figure (low c) (high c) r.fraction)
      ≤ nat_abs (units (low c)) * billion + nat_abs (units (high c) -ℤ units (low c)) * (4 * nat_abs r.fraction + 1)

abbrev pub ShownNear : Type 0
ShownNear =
    (kind : ℕ) (image : List ℕ) (c : Contents) (v : ℤ) (dash : Dash) (r : Reading) → contents kind image ≡ Ok c → NoCurve c.calibration →
    take_reading kind image v dash ≡ Ok r → NearTheExact c r

-- A reading with a curve, whose q is the position: the figure
-- is near the exact figure of the curve's own fraction.
abbrev pub CurveShownNear : Type 0
CurveShownNear =
    (kind : ℕ) (image : List ℕ) (c : Contents) (segments : List FoundSegment) (v : ℤ) (dash : Dash) (r : Reading) → contents kind image ≡ Ok c → c.calibration ≡ curve segments →
    take_reading kind image v dash ≡ Ok r → NearFraction (low c) (high c) (fraction_of (serving_terms r.fraction segments) r.fraction) r.figure

-- ---- from the certificate to the figure

-- The physical ends as read from an image.
abbrev pub single : Outcome Value → Float
single (Ok v) = float v
single (Err r) = nan

abbrev pub low_in : ℕ → List ℕ → Float
low_in kind image = single (read_field kind image 7)

abbrev pub high_in : ℕ → List ℕ → Float
high_in kind image = single (read_field kind image 8)

-- The figure's distance from the exact physical figure of a point of the line
-- is at most 2^−53 of |low| + |high − low| · (4 · Q + 1) / 1,000,000,000, and
-- |high − low| · B / (2000 · 1,000,000,000). Both sides are multiplied out by
-- 2000, by 2^53, by a billion and by the line's denominator.
abbrev pub FigureWithin : ℕ → ℕ → Float → Float → Float → Fraction → Type 0
FigureWithin B Q low high figure line =
    2000 * (2 ^ 53 * nat_abs (units figure *ℤ pos (billion * line.den) -ℤ exact_figure_at low high line.num line.den))
    ≤ (2000 * (nat_abs (units low) * billion + nat_abs (units high -ℤ units low) * (4 * Q + 1)) + 2 ^ 53 * (nat_abs (units high -ℤ units low) * B)) * line.den

-- The figure's bound if q is at most B / 2000 from the line.
abbrev pub FigureStraysAtMost : ℕ → Float → Float → Reading → Fraction → Type 0
FigureStraysAtMost B low high r line = FigureWithin B (nat_abs r.fraction) low high r.figure line

-- With demand 3: the float of the reading against the certificate
-- line, over the Singles read from the image, for every K.
abbrev pub CertificateFigure : Type 0
CertificateFigure =
    (kind : ℕ) (buffer : List ℕ) (sheet : Sheet) (text : List ℕ) (domain : Domain) (points : List ℤ) (built : List ℕ) →
    (alterations : List Alteration) (readingKind : ℕ) (v : ℤ) (dash : Dash) (r : Reading) (K : ℕ) →
    Lendable sheet → RealAlterations alterations → Straight domain points →
    build kind buffer sheet text domain points ≡ Ok built →
    let image = altered built alterations in
    take_reading readingKind image v dash ≡ Ok r →
    Slopes K (pairs_lent points) →
    FigureStraysAtMost (2000 + 1000 * R + K * (D + 1)) (low_in readingKind image) (high_in readingKind image) r (line_for points v (least_in readingKind image) (greatest_in readingKind image))

-- No accepted reading without a curve has a greater |q|, in either domain. An input is
-- at most a tenth of the span beyond its end, and a deviation at most 1,097,150,000.
abbrev pub greatest_fraction : ℕ
greatest_fraction = 1_100_000_000 + 1_097_150_000

abbrev pub FractionAtMost : Type 0
FractionAtMost =
    (kind : ℕ) (image : List ℕ) (c : Contents) (v : ℤ) (dash : Dash) (r : Reading) → contents kind image ≡ Ok c → NoCurve c.calibration →
    take_reading kind image v dash ≡ Ok r → nat_abs r.fraction ≤ greatest_fraction

-- The figure's distance, known beforehand from the points and the physical ends alone.
abbrev pub DistanceFigure : Type 0
DistanceFigure =
    (kind : ℕ) (buffer : List ℕ) (sheet : Sheet) (text : List ℕ) (points : List ℤ) (built : List ℕ) →
    (alterations : List Alteration) (readingKind : ℕ) (v : ℤ) (dash : Dash) (r : Reading) (d : CertificateBound) →
    distance points ≡ Ok d → Lendable sheet → RealAlterations alterations →
    build kind buffer sheet text Electrical points ≡ Ok built →
    let image = altered built alterations in
    take_reading readingKind image v dash ≡ Ok r →
    FigureWithin d.bound greatest_fraction (low_in readingKind image) (high_in readingKind image) r.figure (line_for points v (least_in readingKind image) (greatest_in readingKind image))

-- ---- every accepted reading

-- No accepted reading shows an infinity or a NaN, with a curve or without.
abbrev pub ShownFinite : Type 0
ShownFinite =
    (kind : ℕ) (image : List ℕ) (v : ℤ) (dash : Dash) (r : Reading) → take_reading kind image v dash ≡ Ok r → finite r.figure ≡ true

-- Two readings of one image, the first with the smaller input or fraction: the
-- figure is not smaller if the physical ends rise, and not greater if they fall.
pub record Moves (c : Contents) (r s : Reading) : Type 0 where
  pub rises : T (le (low c) (high c)) → T (le r.figure s.figure)
  pub falls : T (le (high c) (low c)) → T (le s.figure r.figure)

-- If the second fraction is not less than the first, the figures are in this order.
abbrev pub ShownFollows : Type 0
ShownFollows =
    (kind : ℕ) (image : List ℕ) (c : Contents) (v w : ℤ) (one other : Dash) (r s : Reading) → contents kind image ≡ Ok c → NoCurve c.calibration →
    take_reading kind image v one ≡ Ok r → take_reading kind image w other ≡ Ok s → r.fraction ≤ℤ s.fraction → Moves c r s

-- A greater accepted input never takes the figure back.
abbrev pub NeverDropsBack : Contents → ℕ → List ℕ → Type 0
NeverDropsBack c kind image =
    (v w : ℤ) (one other : Dash) (r s : Reading) → take_reading kind image v one ≡ Ok r → take_reading kind image w other ≡ Ok s → v ≤ℤ w → Moves c r s

-- The figure never drops back where Note 14's needle does not: without a table,
-- with a domain 0 table whose points plus deviations never fall, and in domain 1.
abbrev pub ShownRises : Type 0
ShownRises = (kind : ℕ) (image : List ℕ) (c : Contents) → contents kind image ≡ Ok c → NeverFalls c.calibration → NeverDropsBack c kind image

abbrev pub ShownRisesByPhysicalPoint : Type 0
ShownRisesByPhysicalPoint = (kind : ℕ) (image : List ℕ) (c : Contents) → contents kind image ≡ Ok c → domain_in c.calibration ≡ Some Physical → NeverDropsBack c kind image
