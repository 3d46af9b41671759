-- Two figures that are passed to a callee: their distance.
use Rattle.distance.proofs.Names.{◌≡◌, ap₂, w64, SFits, to_z, of_z, to_z-of_z, ℤ, nat_abs, ◌-ℤ◌}

pub distance-of-words : {a b : ℤ} → SFits w64 a → SFits w64 b → nat_abs (to_z w64 (of_z w64 a) -ℤ to_z w64 (of_z w64 b)) ≡ nat_abs (a -ℤ b)
distance-of-words f g = ap₂ (λ (x y : ℤ). nat_abs (x -ℤ y)) (to_z-of_z f) (to_z-of_z g)
