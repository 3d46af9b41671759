use Rattle.codes.proofs.Names.{refl, ◌≡◌, sym, ap, ◌∙◌, ◌≤◌, pos, nat_abs, to_z-of_z, parts-of-word, Ok, top_code, progression, geometric_value, outside}
use Rattle.codes.proofs.EncodeLaws.{same-range, handed-on, in-range}
use Rattle.codes.proofs.encoding.geometric.Goals as goal
use Rattle.codes.proofs.encoding.geometric.Goals.{After-is_outside, After-plus}

range : (c : After-is_outside) → let a = c.args in let value = geometric_value (progression a.scale) in c.is_outside.result ≡ outside (pos (value 0)) (pos (value (top_code a.width))) a.figure
range c =
    same-range c.is_outside.ensures (handed-on (record { sfits = c.least_value.type_inv }) c.least_value.ensures)
    (handed-on (record { sfits = c.highest.type_inv }) c.highest.ensures)
    (to_z-of_z c.ranges.figure)

number : (c : After-plus) → let a = c.args in (c.plus.result ≡ nat_abs a.figure) × (nat_abs a.figure ≤ geometric_value (progression a.scale) (top_code a.width))
number c =
    let p = in-range c.args.figure _ _ (sym (range c.before.before) ∙ c.if-is_outside.false) in
    (c.plus.ensures.0 ∙ ((parts-of-word c.ranges.figure).0 ∙ p.0), p.1)

pub returns-then-is_outside : goal.returns-then-is_outside
returns-then-is_outside c = rw (← (range (goal.at.returns-then-is_outside c).After-is_outside), c.if-is_outside.true) refl

pub stored_code-requires : goal.stored_code-requires
stored_code-requires c = rw ((number c).0, ← c.requires.width_value) (number c).1

pub returns : goal.returns
returns c = rw (sym (range (goal.at.returns c).After-is_outside) ∙ c.if-is_outside.false) (ap Ok (c.stored_code.ensures ∙ rw ((number (goal.at.returns c).After-plus).0, c.requires.width_value)))
