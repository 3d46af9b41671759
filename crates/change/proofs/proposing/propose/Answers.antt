use Rattle.refusal.proofs.Outcomes.{exits}
use Rattle.change.proofs.Names.{sym, ◌∙◌, same_of, opens, held, not_opened}
use Rattle.change.proofs.PartLaws.{code-known, code-fits, lent-real}
use Rattle.change.proofs.CommitLaws.{propose-unread, propose-refused, propose-coded}
use Rattle.change.proofs.proposing.propose.Goals as goal

pub code_in-present-requires : goal.code_in-present-requires
code_in-present-requires c =
    let a = c.args in
    let k = code-known _ _ _ _ _ (sym (same_of c.in_ok-new.was c.code_for.ensures)) in
    (held a.kind a.image.now _ c.open.ensures c.in_ok-opened.was, k.0, k.1)

pub proposed-requires : goal.proposed-requires
proposed-requires c = code-fits _ _ _ _ (sym (same_of c.in_ok-new.was c.code_for.ensures)) (lent-real c.args.value c.well_formed.1.1.1.1.0)

pub returns-in_err-opened : goal.returns-in_err-opened
returns-in_err-opened c =
    let a = c.args in
    exits _ c.from_residual.ensures ∙ sym (propose-unread a.kind a.image.now a.level a.field a.value _ (not_opened a.kind a.image.now _ c.open.ensures c.in_err-opened.was))

pub returns-in_err-new : goal.returns-in_err-new
returns-in_err-new c =
    let a = c.args in
    let (x, h) = opens a.kind a.image.now _ c.open.ensures c.in_ok-opened.was in
    exits _ c.from_residual-in_err-new.ensures ∙ sym (propose-refused h a.level a.field a.value (sym (same_of c.in_err-new.was c.code_for.ensures)))

pub returns : goal.returns
returns c =
    let a = c.args in
    let (x, h) = opens a.kind a.image.now _ c.open.ensures c.in_ok-opened.was in
    c.proposed.ensures
    ∙ sym (propose-coded h a.level a.field a.value (sym (same_of c.in_ok-new.was c.code_for.ensures)) (c.code_in-present.ensures a.kind x h))
