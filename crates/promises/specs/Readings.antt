-- Document 02: statements about readings.
use Rattle.std.specs.Prelude.{◌≡◌, List, ℕ, ◌≤◌, ℤ, length}
use Rattle.refusal.specs.Outcome.{Ok}
use Rattle.layout.specs.Contents.{Contents}
use Rattle.layout.specs.Image.{contents, points}
use Rattle.reading.specs.declared.Dash.TheVariants.{Large, Small}
use Rattle.reading.specs.declared.Reading.{Reading}
use Rattle.reading.specs.Reading.{take_reading}

-- Note 10: "What the small dash shows for a sheet it takes is what the large one shows."
abbrev pub SmallShowsLarge : Type 0
SmallShowsLarge = (kind : ℕ) (image : List ℕ) (v : ℤ) (r : Reading) → take_reading kind image v Small ≡ Ok r → take_reading kind image v Large ≡ Ok r

-- The small dash takes every sheet of at most 32 points:
-- its outcome is the large one's, shown or refused.
abbrev pub SmallTakesFew : Type 0
SmallTakesFew =
    (kind : ℕ) (image : List ℕ) (c : Contents) (v : ℤ) → contents kind image ≡ Ok c → length (points c) ≤ 32 →
    take_reading kind image v Small ≡ take_reading kind image v Large
