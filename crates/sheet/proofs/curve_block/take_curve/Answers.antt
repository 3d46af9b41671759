use Rattle.refusal.proofs.Outcomes.{exits}
use Rattle.sheet.proofs.Names.{step_said, ◌∙◌, ap, curve-domain-sound, stream_in}
use Rattle.sheet.proofs.CurveSteps.{domain-halts, count-halts, segments-halt, curve-stands}
use Rattle.sheet.proofs.curve_block.take_curve.Goals as goal

pub take_code-requires : goal.take_code-requires
take_code-requires c = (c.requires, rw c.curve_domain.ensures curve-domain-sound)

pub returns-in_err-second : goal.returns-in_err-second
returns-in_err-second c =
    let a = c.args in
    ap step_said (exits _ c.from_residual.ensures) ∙ (domain-halts (stream_in a.sizes a.image.now) a.cursor.at _ (rw c.curve_domain.ensures at c.take_code.ensures) c.in_err-second.was)

pub returns-in_err-count : goal.returns-in_err-count
returns-in_err-count c =
    let a = c.args in
    ap step_said (exits _ c.from_residual-in_err-count.ensures) ∙ (count-halts (stream_in a.sizes a.image.now) a.cursor.at _ (rw c.curve_domain.ensures at c.take_code.ensures) c.in_ok-second.was _
    c.take_ruled.ensures c.in_err-count.was)

pub returns-in_err-terms : goal.returns-in_err-terms
returns-in_err-terms c =
    let a = c.args in
    ap step_said (exits _ c.from_residual-in_err-terms.ensures) ∙ (segments-halt (stream_in a.sizes a.image.now) a.cursor.at _ (rw c.curve_domain.ensures at c.take_code.ensures) c.in_ok-second.was _
    c.take_ruled.ensures c.in_ok-count.was _ c.take_segments.ensures c.in_err-terms.was)

pub returns : goal.returns
returns c =
    let a = c.args in
    curve-stands (stream_in a.sizes a.image.now) a.cursor.at _ (rw c.curve_domain.ensures at c.take_code.ensures) c.in_ok-second.was _
    c.take_ruled.ensures c.in_ok-count.was _ c.take_segments.ensures c.in_ok-terms.was
