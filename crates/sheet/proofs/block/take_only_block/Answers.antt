use Rattle.refusal.proofs.Outcomes.{exits}
use Rattle.sheet.proofs.Names.{step_said, ◌∙◌, ap, stream_in}
use Rattle.sheet.proofs.BlockSteps.{block_halts, last-halts, last-stands}
use Rattle.sheet.proofs.block.take_only_block.Goals as goal

pub returns-in_err-counts : goal.returns-in_err-counts
returns-in_err-counts c =
    let a = c.args in
    ap step_said (exits _ c.from_residual.ensures) ∙ (block_halts (stream_in a.sizes a.image.now) a.at a.cursor.at _ c.take_block.ensures c.in_err-counts.was)

pub returns-in_err-end : goal.returns-in_err-end
returns-in_err-end c =
    let a = c.args in
    ap step_said (exits _ c.from_residual-in_err-end.ensures) ∙ (last-halts (stream_in a.sizes a.image.now) a.at a.cursor.at _ c.take_block.ensures c.in_ok-counts.was _ c.take_mark.ensures c.in_err-end.was)

pub returns : goal.returns
returns c =
    let a = c.args in
    last-stands (stream_in a.sizes a.image.now) a.at a.cursor.at _ c.take_block.ensures c.in_ok-counts.was _ c.take_mark.ensures c.in_ok-end.was
