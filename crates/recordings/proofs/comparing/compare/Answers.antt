use Rattle.recordings.proofs.Names.{◌∙◌, exits, opens, held, not_opened}
use Rattle.recordings.proofs.Ticks.{compare-refused}
use Rattle.recordings.proofs.comparing.compare.Goals as goal

pub compare_in-requires : goal.compare_in-requires
compare_in-requires c =
    let a = c.args in
    held a.kind a.image.now _ c.open.ensures c.in_ok-sheet.was

pub returns-in_err-sheet : goal.returns-in_err-sheet
returns-in_err-sheet c =
    let a = c.args in
    exits _ c.from_residual.ensures ∙ compare-refused a.kind a.image.now a.slow.now a.fast.now (not_opened a.kind a.image.now _ c.open.ensures c.in_err-sheet.was)

pub returns : goal.returns
returns c =
    let a = c.args in
    let (x, h) = opens a.kind a.image.now _ c.open.ensures c.in_ok-sheet.was in
    c.compare_in.ensures a.kind x h
