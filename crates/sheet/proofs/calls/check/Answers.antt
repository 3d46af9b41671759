use Rattle.refusal.proofs.Outcomes.{exits}
use Rattle.sheet.proofs.Names.{sym, ap, ◌∙◌, Ok}
use Rattle.sheet.proofs.OpenLaws.{opens, not_opened}
use Rattle.sheet.proofs.ReadLaws.{accepted-checked, refused-checked}
use Rattle.sheet.proofs.calls.check.Goals as goal
use Rattle.sheet.proofs.calls.check.Goals.{After-open}

pub returns-in_err-sheet : goal.returns-in_err-sheet
returns-in_err-sheet c =
    let a = c.args in
    exits _ c.from_residual.ensures ∙ (sym (refused-checked a.kind a.image.now _ (not_opened a.kind a.image.now _ (goal.at.returns-in_err-sheet c).After-open.«open».ensures c.in_err-sheet.was)))

pub returns : goal.returns
returns c =
    let a = c.args in
    let (x, p) = opens a.kind a.image.now _ (goal.at.returns c).After-open.«open».ensures c.in_ok-sheet.was in
    ap (λ y. Ok y.summary) p.is ∙ sym (accepted-checked a.kind a.image.now x p.accepted)
