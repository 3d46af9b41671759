use Rattle.dartelm.proofs.Names.{◌≡◌, refl, ℕ, zero, suc, Owner, level_of}
use Rattle.dartelm.proofs.values.level_of.Goals as goal

-- Any number but 1 and 2 is the owner.
other : (n : ℕ) → (n ≡ 1 → ⊥) → (n ≡ 2 → ⊥) → Owner ≡ level_of n
other zero a b = refl
other (suc zero) a b = absurd (a refl)
other (suc (suc zero)) a b = absurd (b refl)
other (suc (suc (suc n))) a b = refl

pub returns-in_default : goal.returns-in_default
returns-in_default c = other _ c.in_default.in_default-own.rest.0.1 c.in_default.in_default-own.rest.1
