-- Only inner contracts need this: coefficients by their
-- powers, from terms of rising exponents in order.
use Rattle.std.specs.Prelude.{ℕ, suc, ◌<◌, ◌≤◌, cond, List, [], ◌∷◌, take, replicate, nat_lt, slice_set, unsigned_abs, Float}
use Rattle.templates.specs.declared.Term.{Term}
use Rattle.correction.specs.declared.curve.Powers.{Powers}
use Rattle.correction.specs.Curve.{float_zero}

-- The powers of no term.
abbrev pub no_powers : Powers
no_powers = record { coefficients = replicate 6 float_zero; count = 0 }

-- One more term; one whose exponent is above 5 is ignored.
unfoldable pub with_power : Powers → ℕ → Float → Powers
with_power powers power c = cond (nat_lt power 6) (record { coefficients = slice_set powers.coefficients power c; count = suc power }) powers

abbrev pub with_term : Powers → Term → Powers
with_term powers t = with_power powers (unsigned_abs t.exponent) t.coefficient

abbrev pub taken : Powers → List Term → Powers
taken powers [] = powers
taken powers (t ∷ terms) = taken (with_term powers t) terms

-- The coefficients up to the highest power.
abbrev pub up_to_highest : Powers → List Float
up_to_highest powers = take powers.count powers.coefficients

-- Exponents that rise from a power on, up to 5.
abbrev pub Rising : ℕ → List Term → Type 0
Rising power [] = Unit {0}
Rising power (t ∷ terms) = (power ≤ unsigned_abs t.exponent) × ((unsigned_abs t.exponent < 6) × Rising (suc (unsigned_abs t.exponent)) terms)
