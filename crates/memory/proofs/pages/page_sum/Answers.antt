use Rattle.memory.proofs.Names.{sym, ◌∙◌, arith, length-take-le}
use Rattle.memory.proofs.SumLaws.{sum_first, sum-later}
use Rattle.memory.proofs.pages.page_sum.Goals as goal

pub slice_bounds-sum-end : goal.slice_bounds-sum-end
slice_bounds-sum-end c = sym (length-take-le _ c.args.image.now (omega arith))

pub returns-then-page-eq0 : goal.returns-then-page-eq0
returns-then-page-eq0 c =
    let a = c.args in
    c.sum.ensures ∙ sum_first a.sizes a.image.now a.page c.if-page-eq0.true

pub returns : goal.returns
returns c =
    let a = c.args in
    c.sum-2.ensures ∙ sum-later a.sizes a.image.now a.page c.if-page-eq0.false
