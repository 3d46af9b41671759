use Rattle.change.proofs.Names.{sym, ap, ◌∙◌, may_write}
use Rattle.change.proofs.PartLaws.{writable-by}
use Rattle.change.proofs.changing.may_write.Goals as goal

pub returns-then-may_write : goal.returns-then-may_write
returns-then-may_write c =
    let a = c.args in
    writable-by a.template a.level a.field (ap (may_write a.level) (sym c.mark_of.ensures) ∙ sym c.may_write.ensures ∙ c.if-may_write.true)

pub returns : goal.returns
returns c =
    let a = c.args in
    writable-by a.template a.level a.field (ap (may_write a.level) (sym c.mark_of.ensures) ∙ sym c.may_write.ensures ∙ c.if-may_write.false)
