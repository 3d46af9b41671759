use Rattle.refusal.proofs.Outcomes.{exits}
use Rattle.sheet.proofs.Names.{segment_step_said, ap, ◌∙◌, stream_in, passed, code_said}
use Rattle.sheet.proofs.Steps.{carried}
use Rattle.sheet.proofs.CurveSteps.{segment-by}
use Rattle.sheet.proofs.curve_block.take_segment.Goals as goal

pub returns-in_err-start : goal.returns-in_err-start
returns-in_err-start c =
    let a = c.args in
    ap segment_step_said (exits _ c.from_residual.ensures) ∙ (carried (code_said _) _ c.in_err-start.was c.take_ruled.ensures ∙ segment-by (stream_in a.sizes a.image.now) (passed a.before a.terms) a.cursor.at)

pub returns : goal.returns
returns c =
    let a = c.args in
    c.take_counted.ensures
    ∙ carried (code_said _) _ c.in_ok-start.was c.take_ruled.ensures ∙ segment-by (stream_in a.sizes a.image.now) (passed a.before a.terms) a.cursor.at
