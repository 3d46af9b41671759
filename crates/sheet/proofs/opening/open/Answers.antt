use Rattle.refusal.proofs.Outcomes.{exits}
use Rattle.sheet.proofs.Names.{◌∙◌}
use Rattle.sheet.proofs.OpenLaws.{sizes-refused, sized, roomy, sums-refused, sums-right}
use Rattle.sheet.proofs.opening.open.Goals as goal

pub check_sums-requires : goal.check_sums-requires
check_sums-requires c = let a = c.args in sized a.kind a.image.now _ c.image_sizes.ensures c.in_ok-sizes.was

pub walk_sheet-requires : goal.walk_sheet-requires
walk_sheet-requires c = let a = c.args in roomy a.kind a.image.now _ c.image_sizes.ensures c.in_ok-sizes.was

pub returns-in_err-sizes : goal.returns-in_err-sizes
returns-in_err-sizes c =
    let a = c.args in
    exits _ c.from_residual.ensures ∙ sizes-refused a.kind a.image.now _ c.image_sizes.ensures c.in_err-sizes.was

pub returns-in_err-check_sums : goal.returns-in_err-check_sums
returns-in_err-check_sums c =
    let a = c.args in
    exits _ c.from_residual-in_err-check_sums.ensures
    ∙ sums-refused a.kind a.image.now _ c.image_sizes.ensures c.in_ok-sizes.was c.check_sums.ensures c.in_err-check_sums.was

pub returns : goal.returns
returns c =
    let a = c.args in
    c.walk_sheet.ensures ∙ sums-right a.kind a.image.now _ c.image_sizes.ensures c.in_ok-sizes.was c.check_sums.ensures c.in_ok-check_sums.was
