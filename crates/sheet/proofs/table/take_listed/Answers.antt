use Rattle.refusal.proofs.Outcomes.{exits}
use Rattle.sheet.proofs.Names.{step_said, ◌∙◌, ap, stream_in}
use Rattle.sheet.proofs.TableSteps.{listed-halts, listed-stands}
use Rattle.sheet.proofs.table.take_listed.Goals as goal

pub returns-in_err-n : goal.returns-in_err-n
returns-in_err-n c =
    let a = c.args in
    ap step_said (exits _ c.from_residual.ensures) ∙ (listed-halts (stream_in a.sizes a.image.now) a.domain a.count a.start.at _ c.take_pairs.ensures c.in_err-n.was)

pub returns : goal.returns
returns c =
    let a = c.args in
    listed-stands (stream_in a.sizes a.image.now) a.domain a.count a.start.at _ c.take_pairs.ensures c.in_ok-n.was
