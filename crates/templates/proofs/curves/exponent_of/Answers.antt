use Rattle.templates.proofs.Names.{ap, ◌∙◌, arith, ℕ, ◌+◌, ◌/◌, pos, w64, to_z_pos, parts-of-word, abs-parts}
use Rattle.templates.proofs.curves.exponent_of.Goals as goal

pub returns : goal.returns
returns c = let z = c.args.tenths in let see = parts-of-word c.ranges.tenths in let size = c.plus.ensures.0 ∙ see.0 in let rest = c.minus.ensures.0 ∙ see.1 in to_z_pos w64 {n = (c.plus.result + c.minus.result) / 10} (omega (arith, c.plus.ensures.1, c.minus.ensures.1)) ∙ ap (λ (n : ℕ). pos (n / 10)) (omega (arith, size, rest, abs-parts z))
