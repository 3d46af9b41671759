-- Laws of a figure's range, as the code tests it.
use Rattle.codes.proofs.Names.{◌≡◌, refl, ◌∙◌, Bool, false, true≢false, ℕ, ◌≤◌, ltb-false, ltb, ℤ, pos, negsuc, nat_abs, w64, SFits, to_z, of_z, to_z-of_z, up, neither, outside}

-- Equal bounds and figures are tested equally.
pub same-range : {a b f a' b' f' : ℤ} {t : Bool} → t ≡ outside a b f → a ≡ a' → b ≡ b' → f ≡ f' → t ≡ outside a' b' f'
same-range e p q r = rw (p, q, r) at e

-- A signed result that is passed to another call.
pub handed-on : {z y : ℤ} → SFits w64 z → z ≡ y → to_z w64 (of_z w64 z) ≡ y
handed-on f e = to_z-of_z f ∙ e

-- A figure from a to b.
pub in-range : (f : ℤ) (a b : ℕ) → outside (pos a) (pos b) f ≡ false → (up f ≡ nat_abs f) × (nat_abs f ≤ b)
in-range (pos m) a b e = (refl, ltb-false b m (neither (ltb m a) (ltb b m) e).1)
in-range (negsuc m) a b e = absurd (true≢false e)
