use Rattle.refusal.proofs.Outcomes.{exits}
use Rattle.reading.proofs.Names.{◌∙◌, to_z-of_z, opens, held, not_opened}
use Rattle.reading.proofs.Orders.{takes-refused}
use Rattle.reading.proofs.taking.take_reading.Goals as goal

pub reading_in-requires : goal.reading_in-requires
reading_in-requires c =
    let a = c.args in
    held a.kind a.image.now _ c.open.ensures c.in_ok-sheet.was

pub returns-in_err-sheet : goal.returns-in_err-sheet
returns-in_err-sheet c =
    let a = c.args in
    exits _ c.from_residual.ensures ∙ takes-refused a.kind a.image.now a.input a.dash (not_opened a.kind a.image.now _ c.open.ensures c.in_err-sheet.was)

pub returns : goal.returns
returns c =
    let (x, h) = opens c.args.kind c.args.image.now _ c.open.ensures c.in_ok-sheet.was in
    rw (to_z-of_z c.ranges.input) at (c.reading_in.ensures c.args.kind x h)
