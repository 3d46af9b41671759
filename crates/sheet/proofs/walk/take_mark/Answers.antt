use Rattle.refusal.proofs.Outcomes.{exits}
use Rattle.sheet.proofs.Names.{mark_said, ap, refl, ◌∙◌, stream_in}
use Rattle.sheet.proofs.Steps.{got, past}
use Rattle.sheet.proofs.WalkSteps.{mark-past, mark-right, mark-wrong}
use Rattle.sheet.proofs.walk.take_mark.Goals as goal

pub returns-then-code-wanted : goal.returns-then-code-wanted
returns-then-code-wanted c =
    let a = c.args in
    mark-right (stream_in a.sizes a.image.now) a.width a.wanted a.at a.cursor.at
    (got a.sizes a.image.now a.cursor.at a.width _ c.take.ensures c.in_ok-code.was) c.if-code-wanted.true

pub returns-in_err-code : goal.returns-in_err-code
returns-in_err-code c =
    let a = c.args in
    ap mark_said (exits _ c.from_residual.ensures) ∙ (mark-past (stream_in a.sizes a.image.now) a.width a.wanted a.at a.cursor.at
    (past a.sizes a.image.now a.cursor.at a.width _ c.take.ensures c.in_err-code.was))

pub returns : goal.returns
returns c =
    let a = c.args in
    refl
    ∙ mark-wrong (stream_in a.sizes a.image.now) a.width a.wanted a.at a.cursor.at
    (got a.sizes a.image.now a.cursor.at a.width _ c.take.ensures c.in_ok-code.was) c.if-code-wanted.false
