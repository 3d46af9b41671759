use Rattle.refusal.proofs.Outcomes.{exits}
use Rattle.sheet.proofs.Names.{end_said, ◌∙◌, ap, stream_in}
use Rattle.sheet.proofs.Steps.{got, past}
use Rattle.sheet.proofs.TextSteps.{ending-past, text-halts, text-counts}
use Rattle.sheet.proofs.ending.take_ending.Goals as goal

pub returns-in_err-bit : goal.returns-in_err-bit
returns-in_err-bit c =
    let a = c.args in
    ap end_said (exits _ c.from_residual.ensures) ∙ (ending-past (stream_in a.sizes a.image.now) a.cursor.at (past a.sizes a.image.now a.cursor.at 1 _ c.take.ensures c.in_err-bit.was))

pub returns-in_err-n : goal.returns-in_err-n
returns-in_err-n c =
    let a = c.args in
    let e = got a.sizes a.image.now a.cursor.at 1 _ c.take.ensures c.in_ok-bit.was in
    ap end_said (exits _ c.from_residual-in_err-n.ensures) ∙ (text-halts (stream_in a.sizes a.image.now) a.cursor.at e _ c.most_characters-most.ensures _ c.take_text.ensures c.in_err-n.was)

pub returns : goal.returns
returns c =
    let a = c.args in
    let e = got a.sizes a.image.now a.cursor.at 1 _ c.take.ensures c.in_ok-bit.was in
    text-counts (stream_in a.sizes a.image.now) a.cursor.at e _ c.most_characters-most.ensures _ c.take_text.ensures c.in_ok-n.was
