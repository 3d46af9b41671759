-- Document 02, Note 14, "A needle that never drops back", over
-- tables: a greater position never gives a smaller fraction.
use Rattle.std.specs.Prelude.{List, ℤ, ◌+ℤ◌, ◌≤ℤ◌}
use Rattle.templates.specs.declared.Pair.{Pair}
use Rattle.correction.specs.Line.{deviation}
use Rattle.correction.specs.Certificate.{Neighbours, Rises}
use Rattle.correction.specs.Crossing.{sum, SumsRise, crossing}

-- Points plus deviations never fall.
abbrev pub SumsNeverFall : List Pair → Type 0
SumsNeverFall = Neighbours (λ p r. sum p ≤ℤ sum r)

-- In domain 0, if points plus deviations never fall.
abbrev pub DeviatedNeverFalls : Type 0
DeviatedNeverFalls = (pairs : List Pair) → Rises pairs → SumsNeverFall pairs → (p r : ℤ) → p ≤ℤ r → (p +ℤ deviation pairs p) ≤ℤ (r +ℤ deviation pairs r)

-- In domain 1, if points plus deviations rise.
abbrev pub CrossingNeverFalls : Type 0
CrossingNeverFalls = (pairs : List Pair) → Rises pairs → SumsRise pairs → (p r : ℤ) → p ≤ℤ r → crossing pairs p ≤ℤ crossing pairs r
