use Rattle.codes.proofs.Names.{refl, ◌≡◌, sym, ap, ◌∙◌, arith, pos, w64, to_z_pos, to_z-of_z, parts-of-word, Ok, outside}
use Rattle.codes.proofs.EncodeLaws.{same-range, in-range}
use Rattle.codes.proofs.encoding.plain.Goals as goal
use Rattle.codes.proofs.encoding.plain.Goals.{After-is_outside}

range : (c : After-is_outside) → c.is_outside.result ≡ outside (pos c.args.least) (pos c.args.greatest) c.args.figure
range c = same-range c.is_outside.ensures (to_z_pos w64 {n = c.args.least} (omega arith)) (to_z_pos w64 {n = c.args.greatest} (omega arith)) (to_z-of_z c.ranges.figure)

pub returns-then-is_outside : goal.returns-then-is_outside
returns-then-is_outside c = rw (← (range (goal.at.returns-then-is_outside c).After-is_outside), c.if-is_outside.true) refl

pub returns : goal.returns
returns c = let inside = sym (range (goal.at.returns c).After-is_outside) ∙ c.if-is_outside.false in rw inside (ap Ok (c.plus.ensures.0 ∙ ((parts-of-word c.ranges.figure).0 ∙ (in-range c.args.figure c.args.least c.args.greatest inside).0)))
