use Rattle.refusal.proofs.Outcomes.{exits}
use Rattle.conformity.proofs.Names.{◌∙◌, opens, held, not_opened}
use Rattle.conformity.proofs.Orders.{compares-refused}
use Rattle.conformity.proofs.comparing.conformity.Goals as goal

pub conformity_in-requires : goal.conformity_in-requires
conformity_in-requires c = held c.args.kind c.args.image.now _ c.open.ensures c.in_ok-sheet.was

pub returns-in_err-sheet : goal.returns-in_err-sheet
returns-in_err-sheet c =
    let a = c.args in
    exits _ c.from_residual.ensures ∙ compares-refused a.kind a.image.now a.points.now (not_opened a.kind a.image.now _ c.open.ensures c.in_err-sheet.was)

pub returns : goal.returns
returns c =
    let (x, h) = opens c.args.kind c.args.image.now _ c.open.ensures c.in_ok-sheet.was in
    c.conformity_in.ensures c.args.kind x h
