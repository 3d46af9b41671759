use Rattle.templates.proofs.Names.{sym, ◌∙◌, eq-eqb, ne_eqb}
use Rattle.templates.proofs.lines.template_of.Goals as goal

pub returns-then-number-template_number : goal.returns-then-number-template_number
returns-then-number-template_number c = rw (eq-eqb _ _ (c.if-number-template_number.true ∙ c.template_number.ensures))

pub returns-then-number-template_number-2 : goal.returns-then-number-template_number-2
returns-then-number-template_number-2 c = rw (ne_eqb _ _ (λ e. c.if-number-template_number.false (e ∙ sym c.template_number.ensures)), eq-eqb _ _ (c.if-number-template_number-2.true ∙ c.template_number-2.ensures))

pub returns : goal.returns
returns c = rw (ne_eqb _ _ (λ e. c.if-number-template_number.false (e ∙ sym c.template_number.ensures)), ne_eqb _ _ (λ e. c.if-number-template_number-2.false (e ∙ sym c.template_number-2.ensures)))
