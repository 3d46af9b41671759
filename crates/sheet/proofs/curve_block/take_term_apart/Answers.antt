use Rattle.refusal.proofs.Outcomes.{exits}
use Rattle.sheet.proofs.Names.{step_said, ◌∙◌, ap, coefficient-sound, stream_in}
use Rattle.sheet.proofs.CurveSteps.{exponent-halts, coefficient-halts, term-stands}
use Rattle.sheet.proofs.curve_block.take_term_apart.Goals as goal

pub take_code-requires : goal.take_code-requires
take_code-requires c = (c.requires, rw c.term_coefficient.ensures coefficient-sound)

pub returns-in_err-code : goal.returns-in_err-code
returns-in_err-code c =
    let a = c.args in
    ap step_said (exits _ c.from_residual.ensures) ∙ (exponent-halts (stream_in a.sizes a.image.now) (a.before) a.cursor.at _ c.take_ruled.ensures c.in_err-code.was)

pub returns-in_err-next : goal.returns-in_err-next
returns-in_err-next c =
    let a = c.args in
    ap step_said (exits _ c.from_residual-in_err-next.ensures) ∙ (coefficient-halts (stream_in a.sizes a.image.now) (a.before) a.cursor.at _ c.take_ruled.ensures c.in_ok-code.was _
    (rw c.term_coefficient.ensures at c.take_code.ensures) c.in_err-next.was)

pub returns : goal.returns
returns c =
    let a = c.args in
    term-stands (stream_in a.sizes a.image.now) (a.before) a.cursor.at _ c.take_ruled.ensures c.in_ok-code.was _
    (rw c.term_coefficient.ensures at c.take_code.ensures) c.in_ok-next.was
