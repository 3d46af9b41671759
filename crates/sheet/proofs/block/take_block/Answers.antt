use Rattle.refusal.proofs.Outcomes.{exits}
use Rattle.sheet.proofs.Names.{step_said, ap, ◌∙◌, stream_in}
use Rattle.sheet.proofs.Steps.{got, past}
use Rattle.sheet.proofs.BlockSteps.{number_past, numbers-table, numbers-curve, numbers-none}
use Rattle.sheet.proofs.block.take_block.Goals as goal

pub returns-then-number-eq-TABLE_TEMPLATE : goal.returns-then-number-eq-TABLE_TEMPLATE
returns-then-number-eq-TABLE_TEMPLATE c =
    let a = c.args in
    let e = got a.sizes a.image.now a.cursor.at 8 _ c.take.ensures c.in_ok-number.was in
    c.take_table.ensures ∙ numbers-table (stream_in a.sizes a.image.now) a.at a.cursor.at e c.if-number-eq-TABLE_TEMPLATE.true

pub returns-then-number-eq-CURVE_TEMPLATE : goal.returns-then-number-eq-CURVE_TEMPLATE
returns-then-number-eq-CURVE_TEMPLATE c =
    let a = c.args in
    let e = got a.sizes a.image.now a.cursor.at 8 _ c.take.ensures c.in_ok-number.was in
    c.take_curve.ensures ∙ numbers-curve (stream_in a.sizes a.image.now) a.at a.cursor.at e c.if-number-eq-TABLE_TEMPLATE.false c.if-number-eq-CURVE_TEMPLATE.true

pub returns-in_err-number : goal.returns-in_err-number
returns-in_err-number c =
    let a = c.args in
    ap step_said (exits _ c.from_residual.ensures) ∙ (number_past (stream_in a.sizes a.image.now) a.at a.cursor.at (past a.sizes a.image.now a.cursor.at 8 _ c.take.ensures c.in_err-number.was))

pub returns : goal.returns
returns c =
    let a = c.args in
    let e = got a.sizes a.image.now a.cursor.at 8 _ c.take.ensures c.in_ok-number.was in
    numbers-none (stream_in a.sizes a.image.now) a.at a.cursor.at e c.if-number-eq-TABLE_TEMPLATE.false c.if-number-eq-CURVE_TEMPLATE.false
