use Rattle.writing.proofs.Names.{sym, ap, ◌∙◌, Ok, answered, exits}
use Rattle.writing.proofs.CallLaws.{checked-asked, calls, call-refused, call-other-length}
use Rattle.writing.proofs.next_row.Goals as goal

pub returns-in_err-check : goal.returns-in_err-check
returns-in_err-check c =
    let a = c.args in
    exits _ c.from_residual.ensures
    ∙ ap answered (sym (call-refused a.kind a.present.now a.wanted.now _ (sym c.check.ensures ∙ c.in_err-check.was)))

pub returns-in_err-sizes : goal.returns-in_err-sizes
returns-in_err-sizes c =
    let a = c.args in
    exits _ c.from_residual-in_err-sizes.ensures
    ∙ ap answered
    (sym
    (call-other-length a.kind a.present.now a.wanted.now _ _ (sym c.check.ensures ∙ c.in_ok-check.was)
    (sym c.image_sizes.ensures ∙ c.in_err-sizes.was)))

pub next-requires : goal.next-requires
next-requires c =
    let a = c.args in
    (checked-asked a.kind a.present.now a.wanted.now _ _ (sym c.check.ensures ∙ c.in_ok-check.was) (sym c.image_sizes.ensures ∙ c.in_ok-sizes.was)).fits

pub returns : goal.returns
returns c =
    let a = c.args in
    ap Ok c.next.ensures
    ∙ ap answered
    (sym
    (calls a.kind a.present.now a.wanted.now _ _ (sym c.check.ensures ∙ c.in_ok-check.was) (sym c.image_sizes.ensures ∙ c.in_ok-sizes.was)))
