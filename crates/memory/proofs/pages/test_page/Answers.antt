use Rattle.memory.proofs.Names.{sym, ◌∙◌}
use Rattle.memory.proofs.SumLaws.{test-blank, test_good, test-wrong}
use Rattle.memory.proofs.pages.test_page.Goals as goal

pub returns-then-is_blank : goal.returns-then-is_blank
returns-then-is_blank c =
    let a = c.args in
    sym (test-blank a.sizes a.image.now a.page (sym c.is_blank.ensures ∙ c.if-is_blank.true))

pub returns-then-page_sum-eq0 : goal.returns-then-page_sum-eq0
returns-then-page_sum-eq0 c =
    let a = c.args in
    sym
    (test_good a.sizes a.image.now a.page (sym c.is_blank.ensures ∙ c.if-is_blank.false)
    (sym c.page_sum.ensures ∙ c.if-page_sum-eq0.true))

pub returns : goal.returns
returns c =
    let a = c.args in
    sym
    (test-wrong a.sizes a.image.now a.page (sym c.is_blank.ensures ∙ c.if-is_blank.false)
    (λ e. c.if-page_sum-eq0.false (c.page_sum.ensures ∙ e)))
