-- Laws of the figure near the certificate line.
use Rattle.promises.proofs.Names.{◌≡◌, ap, List, [], ◌∷◌, map, ℕ, ◌+◌, ◌*◌, ◌≤◌, le_refl, arith, ℤ, Fraction, Ok, D, R, last_field, span-listed, Calibration, bare, table, curve, Contents, contents}
use Rattle.promises.proofs.Names.{segment_in, segments_in, contents-accepted, CalibrationAt, accepted-reads, Dash, Reading, take_reading, shown, figure-near-line, StraysAtMost, altered, NoCurve, low, high, single}
use Rattle.promises.proofs.Names.{low_in, high_in, FigureStraysAtMost, CertificateFigure}
use Rattle.promises.proofs.Distance.{certificate-distance}
use Rattle.promises.proofs.KeptLent.{kept-lent}
use Rattle.promises.proofs.Figures.{taken, figure-is}

-- The physical ends as read.
pub physical-read : (kind : ℕ) (image : List ℕ) (c : Contents) → contents kind image ≡ Ok c → (low_in kind image ≡ low c) × (high_in kind image ≡ high c)
physical-read kind image c e =
    let read = (accepted-reads kind image c e).fields in
    let many : 11 ≤ last_field c.template = span-listed c.template (le_refl 11) in
    (ap single (read 7 (omega arith) (omega (arith, many))), ap single (read 8 (omega arith) (omega (arith, many))))

-- The figure's bound wherever q is near a point of the line.
pub figure-strays : (kind : ℕ) (image : List ℕ) (c : Contents) (v : ℤ) (dash : Dash) (r : Reading) (B : ℕ) (line : Fraction) → contents kind image ≡ Ok c → NoCurve c.calibration →
    take_reading kind image v dash ≡ Ok r → StraysAtMost B r.fraction line → FigureStraysAtMost B (low_in kind image) (high_in kind image) r line
figure-strays kind image c v dash r B line accepted plain e strays =
    let t = taken kind image c v dash r accepted e in
    let ends = physical-read kind image c accepted in
    rw (ends.0, ends.1, figure-is c v r t plain) (figure-near-line (low c) (high c) r.fraction line.num line.den B t.foot t.top t.small strays)

-- An image built from a list of points has no curve.
pub no-curve : (at : ℕ) (k : Calibration) → CalibrationAt at k → map segment_in (segments_in k) ≡ [] → NoCurve k
no-curve at bare h e = tt
no-curve at (table domain pairs) h e = tt
no-curve at (curve []) h e = omega (arith, h.some)
no-curve at (curve (s ∷ segments)) h e = let z : ◌≡◌ {A = ℕ} 0 1 = cc in omega arith

pub certificate-figure : CertificateFigure
certificate-figure kind buffer sheet text domain points built alterations readingKind v dash r K lendable real straight made e slopes =
    let image : List ℕ = altered built alterations in
    let s = shown readingKind image v dash r e in
    let k = kept-lent kind buffer sheet text domain points built alterations readingKind s.holds lendable real made s.accepted in
    figure-strays readingKind image s.holds v dash r (2000 + 1000 * R + K * (D + 1)) _ s.accepted
    (no-curve _ s.holds.calibration (contents-accepted readingKind image s.holds s.accepted).holding.formed.calibrated k.keeps_segments) e
    (certificate-distance kind buffer sheet text domain points built alterations readingKind v dash r K lendable real straight made e slopes)
