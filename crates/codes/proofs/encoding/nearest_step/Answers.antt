use Rattle.codes.proofs.Names.{refl, ◌≡◌, sym, ap, ◌∙◌, lt_z, to_z-of_z, Ok, neither, top_code, stepped_value, outside}
use Rattle.codes.proofs.EncodeLaws.{same-range, handed-on}
use Rattle.codes.proofs.CodeLaws.{top_below, product}
use Rattle.codes.proofs.encoding.nearest_step.Goals as goal
use Rattle.codes.proofs.encoding.nearest_step.Goals.{After-is_outside, After-step_value-highest}

highest : (c : After-step_value-highest) → c.step_value-highest.result ≡ stepped_value c.args.start c.args.step (top_code c.args.width)
highest c = c.step_value-highest.ensures ∙ rw (to_z-of_z c.ranges.start, c.top_code.ensures)

range : (c : After-is_outside) → c.is_outside.result ≡ outside c.args.start (stepped_value c.args.start c.args.step (top_code c.args.width)) c.args.figure
range c = same-range c.is_outside.ensures (to_z-of_z c.ranges.start) (handed-on (record { sfits = c.step_value-highest.type_inv }) (highest c.before)) (to_z-of_z c.ranges.figure)

pub step_value-highest-requires : goal.step_value-highest-requires
step_value-highest-requires c = rw (to_z-of_z c.ranges.start) (c.requires.step_nonzero.1.0, product c.args.step c.args.width (top_below c.args.width c.top_code.ensures) c.requires.step_nonzero.1.1)

pub returns-then-is_outside : goal.returns-then-is_outside
returns-then-is_outside c = rw (← (range (goal.at.returns-then-is_outside c).After-is_outside), c.if-is_outside.true) refl

pub step_code-requires : goal.step_code-requires
step_code-requires c = rw (to_z-of_z c.ranges.figure, to_z-of_z c.ranges.start) (c.requires.step_nonzero.0, (neither (lt_z c.args.figure c.args.start) _ (sym (range (goal.at.step_code-requires c).After-is_outside) ∙ c.if-is_outside.false)).0)

pub returns : goal.returns
returns c = rw (sym (range (goal.at.returns c).After-is_outside) ∙ c.if-is_outside.false) (ap Ok (rw (to_z-of_z c.ranges.figure, to_z-of_z c.ranges.start) at c.step_code.ensures))
