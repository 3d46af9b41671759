use Rattle.refusal.proofs.Outcomes.{exits}
use Rattle.change.proofs.Names.{◌∙◌, same_of}
use Rattle.change.proofs.PartLaws.{allowed-known, code-refused, code-allowed}
use Rattle.change.proofs.changing.code_for.Goals as goal

pub encode-requires : goal.encode-requires
encode-requires c =
    let a = c.args in
    allowed-known a.layout.template a.level a.field (same_of c.in_ok-may_change.was c.may_change.ensures)

pub returns-in_err-may_change : goal.returns-in_err-may_change
returns-in_err-may_change c =
    let a = c.args in
    exits _ c.from_residual.ensures ∙ code-refused a.layout a.level a.field a.value (same_of c.in_err-may_change.was c.may_change.ensures)

pub returns : goal.returns
returns c =
    let a = c.args in
    code-allowed a.layout a.level a.field a.value (same_of c.in_ok-may_change.was c.may_change.ensures) c.encode.ensures
