use Rattle.layout.proofs.Names.{sym, ap, ◌∙◌, ℕ, ◌+◌, ◌-◌, arith}
use Rattle.layout.proofs.PlaceSteps.{place-few, in-basic, behind-basic}
use Rattle.layout.proofs.locating.locate.Goals as goal

pub overflow_add-result : goal.overflow_add-result
overflow_add-result c =
    let a = c.args in
    omega (arith, c.bits_before-before.ensures, place-few a.layout (a.field - 1))

pub returns-then-basic_fields-field : goal.returns-then-basic_fields-field
returns-then-basic_fields-field c =
    let a = c.args in
    ap (λ (n : ℕ). n + 10) c.bits_before-before.ensures ∙ sym (behind-basic a.layout a.field (omega (arith, c.basic_fields.ensures)))

pub returns : goal.returns
returns c =
    let a = c.args in
    c.bits_before-before.ensures ∙ sym (in-basic a.layout a.field (omega (arith, c.basic_fields.ensures)))
