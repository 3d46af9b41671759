use Rattle.refusal.proofs.Outcomes.{exits}
use Rattle.sheet.proofs.Names.{code_said, ap, ◌∙◌, curve_row, curve_rule, stream_in}
use Rattle.sheet.proofs.CurveSteps.{curve-sound, ruled-halts, ruled-steps}
use Rattle.sheet.proofs.curve_block.take_ruled.Goals as goal

pub take_code-requires : goal.take_code-requires
take_code-requires c = (c.requires, rw c.curve_row.ensures (curve-sound c.args.field))

pub returns-in_err-code : goal.returns-in_err-code
returns-in_err-code c =
    let a = c.args in
    ap (code_said _) (exits _ c.from_residual.ensures) ∙ (ruled-halts (stream_in a.sizes a.image.now) (curve_row a.field) (curve_rule a.field a.before) a.cursor.at _ (rw c.curve_row.ensures at c.take_code.ensures) c.in_err-code.was)

pub returns : goal.returns
returns c =
    let a = c.args in
    c.ruled.ensures
    ∙ ruled-steps (stream_in a.sizes a.image.now) (curve_row a.field) (curve_rule a.field a.before) a.cursor.at _ (rw c.curve_row.ensures at c.take_code.ensures) c.in_ok-code.was c.obeys.ensures
