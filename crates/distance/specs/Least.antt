-- Statements of what the K of a distance is.
use Rattle.std.specs.Prelude.{◌≡◌, List, [], ◌∷◌, ℕ, ◌≤◌, ℤ}
use Rattle.refusal.specs.Outcome.{Ok}
use Rattle.templates.specs.declared.Pair.{Pair}
use Rattle.build.specs.Build.{pairs_lent}
use Rattle.correction.specs.Certificate.{Slopes}
use Rattle.distance.specs.declared.CertificateBound.{CertificateBound}
use Rattle.distance.specs.Distance.{by_slope, distance}

-- K meets every slope, and no smaller number does.
pub record Least (K : ℕ) (pairs : List Pair) : Type 0 where
  pub meets : Slopes K pairs
  pub least : (k : ℕ) → Slopes k pairs → K ≤ k

abbrev pub LeastSlope : Type 0
LeastSlope = (points : List ℤ) (d : CertificateBound) → distance points ≡ Ok d → Least d.slope (pairs_lent points)

-- An empty list and a single point have K 0.
abbrev pub NoSlope : Type 0
NoSlope = (distance [] ≡ Ok (by_slope 0)) × ((a s : ℤ) (d : CertificateBound) → distance (a ∷ s ∷ []) ≡ Ok d → d ≡ by_slope 0)
