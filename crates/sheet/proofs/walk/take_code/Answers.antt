use Rattle.refusal.proofs.Outcomes.{exits}
use Rattle.sheet.proofs.Names.{ap, ◌∙◌, code_said}
use Rattle.sheet.proofs.Steps.{code-missed, code-judged, code-stands}
use Rattle.sheet.proofs.walk.take_code.Goals as goal

pub returns-in_err-code : goal.returns-in_err-code
returns-in_err-code c =
    let a = c.args in
    ap (code_said _) (exits _ c.from_residual.ensures) ∙ code-missed a.sizes a.image.now a.cursor.at a.row c.take.result c.take.ensures c.in_err-code.was

pub returns-in_err-judge : goal.returns-in_err-judge
returns-in_err-judge c =
    let a = c.args in
    ap (code_said _) (exits _ c.from_residual-in_err-judge.ensures)
    ∙ code-judged a.sizes a.image.now a.cursor.at a.row c.take.result c.take.ensures c.in_ok-code.was (c.judge.ensures) c.in_err-judge.was

pub returns : goal.returns
returns c =
    let a = c.args in
    code-stands a.sizes a.image.now a.cursor.at a.row c.take.result c.take.ensures c.in_ok-code.was (c.judge.ensures) c.in_ok-judge.was
