use Rattle.layout.proofs.Names.{sym, ap, ℕ, curve_bits}
use Rattle.layout.proofs.PlaceSteps.{curve-some}
use Rattle.layout.proofs.locating.curve_bits.Goals as goal

pub returns-then-segments-eq0 : goal.returns-then-segments-eq0
returns-then-segments-eq0 c = sym (ap (λ (n : ℕ). curve_bits n c.args.terms) c.if-segments-eq0.true)

pub returns : goal.returns
returns c = curve-some c.args.segments c.args.terms c.if-segments-eq0.false
