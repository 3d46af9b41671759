use Rattle.change.proofs.Names.{arith, sym, ◌∙◌, rules}
use Rattle.change.proofs.PartLaws.{allowed-none, allowed-past, allowed-choice, allowed-by-level}
use Rattle.change.proofs.changing.may_change.Goals as goal
use Rattle.change.proofs.changing.may_change.Goals.{then-field-lt1-via-then-field-lt1, then-field-lt1-via-else-field-lt1+then-last_field-field}

pub returns-then-field-lt1 : goal.returns-then-field-lt1
returns-then-field-lt1 c =
    let a = c.args in
    elim c.then-field-lt1.branch [
      | then-field-lt1-via-then-field-lt1 w ↦ allowed-none a.template a.level a.field w.if-field-lt1.true
      | then-field-lt1-via-else-field-lt1+then-last_field-field w ↦ allowed-past a.template a.level a.field (omega (arith, w.if-field-lt1.false)) (omega (arith, w.last_field.ensures, w.if-last_field-field.true))
    ]

pub returns-then-is_choice : goal.returns-then-is_choice
returns-then-is_choice c =
    let a = c.args in
    let choice = sym c.is_choice.ensures ∙ c.if-is_choice.true in
    cc (allowed-choice a.template a.level a.field choice (search rules) (search rules))

pub returns : goal.returns
returns c =
    let a = c.args in
    c.may_write.ensures ∙ allowed-by-level a.template a.level a.field (sym c.is_choice.ensures ∙ c.if-is_choice.false) (search rules) (search rules)
