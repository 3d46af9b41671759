-- Only inner contracts need this: a rule that is not geometric.
use Rattle.codes.specs.declared.Rule.{Rule}
use Rattle.codes.specs.declared.Rule.TheVariants.{Plain, Stepped, Geometric, Single}

abbrev pub Unscaled : Rule → Type 0
Unscaled (Plain least greatest) = Unit {0}
Unscaled (Stepped start step) = Unit {0}
Unscaled (Geometric scale) = ⊥
Unscaled Single = Unit {0}
