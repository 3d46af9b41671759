use Rattle.refusal.proofs.Outcomes.{exits}
use Rattle.sheet.proofs.Names.{step_said, ap, ◌∙◌, stream_in}
use Rattle.sheet.proofs.Steps.{got, past}
use Rattle.sheet.proofs.BlockSteps.{selector-past, selects-block, selects-end, selects-none}
use Rattle.sheet.proofs.block.take_calibration.Goals as goal

pub returns-then-selector-eq0 : goal.returns-then-selector-eq0
returns-then-selector-eq0 c =
    let a = c.args in
    let e = got a.sizes a.image.now a.cursor.at 2 _ c.take.ensures c.in_ok-selector.was in
    c.take_only_block.ensures ∙ selects-block (stream_in a.sizes a.image.now) a.cursor.at e c.if-selector-eq0.true

pub returns-then-selector-eq3 : goal.returns-then-selector-eq3
returns-then-selector-eq3 c =
    let a = c.args in
    let e = got a.sizes a.image.now a.cursor.at 2 _ c.take.ensures c.in_ok-selector.was in
    selects-end (stream_in a.sizes a.image.now) a.cursor.at e c.if-selector-eq0.false c.if-selector-eq3.true

pub returns-in_err-selector : goal.returns-in_err-selector
returns-in_err-selector c =
    let a = c.args in
    ap step_said (exits _ c.from_residual.ensures) ∙ (selector-past (stream_in a.sizes a.image.now) a.cursor.at (past a.sizes a.image.now a.cursor.at 2 _ c.take.ensures c.in_err-selector.was))

pub returns : goal.returns
returns c =
    let a = c.args in
    let e = got a.sizes a.image.now a.cursor.at 2 _ c.take.ensures c.in_ok-selector.was in
    selects-none (stream_in a.sizes a.image.now) a.cursor.at e c.if-selector-eq0.false c.if-selector-eq3.false
