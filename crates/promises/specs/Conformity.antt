-- The conformity of a chip with its certificate: what the call answers for
-- any accepted image and any points holds for every reading of that image.
use Rattle.std.specs.Prelude.{◌≡◌, List, [], ◌⊎◌, ℕ, ◌+◌, ◌≤◌, ℤ}
use Rattle.std.specs.Prelude.{Some}
use Rattle.refusal.specs.Outcome.{Ok}
use Rattle.memory.specs.Bits.{Bytes}
use Rattle.templates.specs.declared.Domain.{Domain}
use Rattle.templates.specs.declared.Pair.{Pair}
use Rattle.templates.specs.declared.Template.TheVariants.{Bridge}
use Rattle.layout.specs.Contents.{Contents}
use Rattle.layout.specs.Image.{contents, points}
use Rattle.build.specs.declared.Sheet.{Sheet}
use Rattle.build.specs.Build.{pairs_lent, build}
use Rattle.distance.specs.declared.CertificateBound.{CertificateBound}
use Rattle.distance.specs.Distance.{distance}
use Rattle.conformity.specs.Conformity.{conformity}
use Rattle.conformity.specs.Tight.{Attains, AtSome}
use Rattle.reading.specs.declared.Dash.{Dash}
use Rattle.reading.specs.declared.Reading.{Reading}
use Rattle.reading.specs.Reading.{take_reading}
use Rattle.promises.specs.Lent.{Lendable}
use Rattle.promises.specs.Alterations.{Alteration, RealAlterations, altered}
use Rattle.promises.specs.Certificate.{Straight, least_in, greatest_in, line_for}
use Rattle.promises.specs.Beforehand.{StraysAtMost}
use Rattle.promises.specs.Figure.{low_in, high_in, FigureStraysAtMost}

-- Whoever wrote the image: q of every accepted reading is within B / 2000 of the exact
-- certificate line through the points as lent. The end values are those read from that image.
abbrev pub Conforms : Type 0
Conforms =
    (kind : ℕ) (image : List ℕ) (lent : List ℤ) (v : ℤ) (dash : Dash) (r : Reading) (d : CertificateBound) →
    conformity kind image lent ≡ Ok (Some d) → take_reading kind image v dash ≡ Ok r →
    StraysAtMost d.bound r.fraction (line_for lent v (least_in kind image) (greatest_in kind image))

-- The physical figure is near the certificate line
-- too, over the physical ends read from that image.
abbrev pub FigureConforms : Type 0
FigureConforms =
    (kind : ℕ) (image : List ℕ) (lent : List ℤ) (v : ℤ) (dash : Dash) (r : Reading) (d : CertificateBound) →
    conformity kind image lent ≡ Ok (Some d) → take_reading kind image v dash ≡ Ok r →
    FigureStraysAtMost d.bound (low_in kind image) (high_in kind image) r (line_for lent v (least_in kind image) (greatest_in kind image))

-- For the image of a build of template 33 from these points, after any list of changes and
-- commits. The call answers the K of the distance known beforehand, and a B that is no greater.
pub record Keeps (kind : ℕ) (image : List ℕ) (lent : List ℤ) : Type 0 where
  pub beforehand : CertificateBound
  pub known : distance lent ≡ Ok beforehand
  pub found : CertificateBound
  pub conforms : conformity kind image lent ≡ Ok (Some found)
  pub slope : found.slope ≡ beforehand.slope
  pub bound : found.bound ≤ beforehand.bound

abbrev pub BeforehandIsKept : Type 0
BeforehandIsKept =
    (kind : ℕ) (buffer : List ℕ) (sheet : Sheet) (text : List ℕ) (domain : Domain) (lent : List ℤ) (built : List ℕ) (alterations : List Alteration) →
    Lendable sheet → RealAlterations alterations → Straight domain lent → sheet.template ≡ Bridge →
    build kind buffer sheet text domain lent ≡ Ok built →
    Keeps kind (altered built alterations) lent

-- No change or commit changes the answer.
abbrev pub NoAlterationMoves : Type 0
NoAlterationMoves =
    (kind : ℕ) (image : List ℕ) (lent : List ℤ) (alterations : List Alteration) → Bytes image → RealAlterations alterations →
    conformity kind (altered image alterations) lent ≡ conformity kind image lent

-- B is no greater than necessary: unless both lists are empty, B − 2000 − K is less
-- than 1 above 2000 × a difference that is attained at a point of one of them.
pub record Tight (stored lent : List Pair) (d : CertificateBound) : Type 0 where
  pub greatest : ℕ
  pub is : d.bound ≡ 2000 + d.slope + greatest
  pub attained : ((stored ≡ []) × (lent ≡ [])) ⊎ (AtSome (Attains greatest stored lent) stored ⊎ AtSome (Attains greatest stored lent) lent)

abbrev pub BoundTight : Type 0
BoundTight =
    (kind : ℕ) (image : List ℕ) (lent : List ℤ) (c : Contents) (d : CertificateBound) → contents kind image ≡ Ok c → conformity kind image lent ≡ Ok (Some d) →
    Tight (points c) (pairs_lent lent) d
