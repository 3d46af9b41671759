use Rattle.refusal.proofs.Outcomes.{exits}
use Rattle.index.proofs.Names.{sym, ◌∙◌, same_of, sizes-chip, sized}
use Rattle.index.proofs.FetchLaws.{fetch-unsized, fetch-turned, fetch-right}
use Rattle.index.proofs.fetching.fetch.Goals as goal

pub check_sums-requires : goal.check_sums-requires
check_sums-requires c =
    let a = c.args in
    sized a.kind a.image.now _ c.image_sizes.ensures c.in_ok-sizes.was

pub fetch_in-requires : goal.fetch_in-requires
fetch_in-requires c =
    let a = c.args in
    let are = c.in_ok-sizes.was in
    (sized a.kind a.image.now _ c.image_sizes.ensures are, (sizes-chip a.kind _ _ (sym (same_of are c.image_sizes.ensures))).paged)

pub returns-in_err-sizes : goal.returns-in_err-sizes
returns-in_err-sizes c =
    let a = c.args in
    exits _ c.from_residual.ensures ∙ sym (fetch-unsized a.kind a.image.now a.index.now a.field (sym (same_of c.in_err-sizes.was c.image_sizes.ensures)))

pub returns-in_err-check_sums : goal.returns-in_err-check_sums
returns-in_err-check_sums c =
    let a = c.args in
    exits _ c.from_residual-in_err-check_sums.ensures
    ∙ sym (fetch-turned a.kind a.image.now a.index.now a.field (sym (same_of c.in_ok-sizes.was c.image_sizes.ensures))
    (sym (same_of c.in_err-check_sums.was c.check_sums.ensures)))

pub returns : goal.returns
returns c =
    let a = c.args in
    c.fetch_in.ensures
    ∙ sym (fetch-right a.kind a.image.now a.index.now a.field (sym (same_of c.in_ok-sizes.was c.image_sizes.ensures))
    (sym (same_of c.in_ok-check_sums.was c.check_sums.ensures)))
