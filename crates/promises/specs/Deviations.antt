-- Document 01, "Reading": the deviation of a table whose points rise.
-- "before the first and after the last point the end deviation holds";
-- everywhere it is from the least to the greatest deviation of the table.
use Rattle.std.specs.Prelude.{◌≡◌, List, [], ◌∷◌, ◌++◌, ℤ, ◌≤ℤ◌}
use Rattle.templates.specs.declared.Pair.{Pair}
use Rattle.correction.specs.Line.{deviation}
use Rattle.correction.specs.Certificate.{Rises}

abbrev pub FirstHolds : Type 0
FirstHolds = (first : Pair) (pairs : List Pair) (p : ℤ) → p ≤ℤ first.point → deviation (first ∷ pairs) p ≡ first.deviation

abbrev pub LastHolds : Type 0
LastHolds =
    (pairs : List Pair) (last : Pair) (p : ℤ) → Rises (pairs ++ (last ∷ [])) → last.point ≤ℤ p → deviation (pairs ++ (last ∷ [])) p ≡ last.deviation

-- Every deviation of a table is at least low and at most high.
abbrev pub AllWithin : ℤ → ℤ → List Pair → Type 0
AllWithin low high [] = Unit {0}
AllWithin low high (p ∷ pairs) = (low ≤ℤ p.deviation) × (p.deviation ≤ℤ high) × AllWithin low high pairs

-- The deviation at every p is within the same bounds, such
-- as the least and the greatest deviation of the table.
abbrev pub DeviationWithin : Type 0
DeviationWithin =
    (low high : ℤ) (first : Pair) (pairs : List Pair) (p : ℤ) → Rises (first ∷ pairs) → AllWithin low high (first ∷ pairs) →
    (low ≤ℤ deviation (first ∷ pairs) p) × (deviation (first ∷ pairs) p ≤ℤ high)
