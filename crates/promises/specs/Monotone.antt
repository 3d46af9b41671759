-- Document 02, Note 14: "a greater accepted input never gives a smaller
-- fraction", on either dash. "This covers ends, ties and every precision."
use Rattle.std.specs.Prelude.{Some, ◌≡◌, List, map, ℕ, ℤ, ◌≤ℤ◌}
use Rattle.refusal.specs.Outcome.{Ok}
use Rattle.templates.specs.declared.Domain.TheVariants.{Electrical, Physical}
use Rattle.layout.specs.Contents.{Calibration, bare, table, curve, Contents}
use Rattle.layout.specs.Image.{contents, pair_in}
use Rattle.sheet.specs.Check.{domain_in}
use Rattle.correction.specs.Monotone.{SumsNeverFall}
use Rattle.reading.specs.declared.Dash.{Dash}
use Rattle.reading.specs.declared.Reading.{Reading}
use Rattle.reading.specs.Reading.{take_reading}

-- "a domain 0 table whose stored points plus deviations
-- never fall, or with no table"; "Curves stay outside."
abbrev pub NeverFalls : Calibration → Type 0
NeverFalls bare = Unit {0}
NeverFalls (table Electrical pairs) = SumsNeverFall (map pair_in pairs)
NeverFalls (table Physical pairs) = ⊥
NeverFalls (curve segments) = ⊥

-- For one image, a greater accepted input never shows a smaller fraction.
abbrev pub NeverDrops : ℕ → List ℕ → Type 0
NeverDrops kind image =
    (v w : ℤ) (one other : Dash) (r s : Reading) → take_reading kind image v one ≡ Ok r → take_reading kind image w other ≡ Ok s → v ≤ℤ w → r.fraction ≤ℤ s.fraction

abbrev pub ReadingMonotone : Type 0
ReadingMonotone = (kind : ℕ) (image : List ℕ) (c : Contents) → contents kind image ≡ Ok c → NeverFalls c.calibration → NeverDrops kind image

-- In domain 1, where points plus deviations rise in every accepted sheet, this needs no hypothesis.
abbrev pub MonotoneByPhysicalPoint : Type 0
MonotoneByPhysicalPoint = (kind : ℕ) (image : List ℕ) (c : Contents) → contents kind image ≡ Ok c → domain_in c.calibration ≡ Some Physical → NeverDrops kind image
