use Rattle.refusal.proofs.Outcomes.{exits}
use Rattle.sheet.proofs.Names.{segment_step_said, ap, ◌∙◌, stream_in}
use Rattle.sheet.proofs.CurveSteps.{too_many, terms-passed}
use Rattle.sheet.proofs.curve_block.take_own_terms.Goals as goal

pub returns-then-too_many : goal.returns-then-too_many
returns-then-too_many c =
    let a = c.args in
    too_many (stream_in a.sizes a.image.now) a.start a.total a.count a.cursor.at c.too_many.ensures c.if-too_many.true

pub returns-in_err-next : goal.returns-in_err-next
returns-in_err-next c =
    let a = c.args in
    ap segment_step_said (exits _ c.from_residual.ensures) ∙ (terms-passed (stream_in a.sizes a.image.now) a.start a.total a.count a.cursor.at c.too_many.ensures c.if-too_many.false c.in_err-next.was c.take_terms.ensures)

pub returns : goal.returns
returns c =
    let a = c.args in
    terms-passed (stream_in a.sizes a.image.now) a.start a.total a.count a.cursor.at c.too_many.ensures c.if-too_many.false c.in_ok-next.was c.take_terms.ensures
