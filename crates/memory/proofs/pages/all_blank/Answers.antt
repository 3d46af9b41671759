use Rattle.memory.proofs.Names.{◌≡◌, sym, ◌∙◌, ◌-◌, arith, not-true, not-false, blank_from}
use Rattle.memory.proofs.SumLaws.{turn-blank, turn-written}
use Rattle.memory.proofs.pages.all_blank.Goals as goal

pub returns-then-not-is_blank : goal.returns-then-not-is_blank
returns-then-not-is_blank c =
    let a = c.args in
    let l = c.loop-page in
    sym (turn-written a.sizes a.image.now a.sizes.pages l.page c.loop-page-test.true (sym c.is_blank.ensures ∙ not-true c.is_blank.result c.if-not-is_blank.true-raw))
    ∙ l.invariant

pub loop-page-preserved : goal.loop-page-preserved
loop-page-preserved c =
    let a = c.args in
    let l = c.loop-page in
    sym (turn-blank a.sizes a.image.now a.sizes.pages l.page c.loop-page-test.true (sym c.is_blank.ensures ∙ not-false c.is_blank.result c.if-not-is_blank.false-raw))
    ∙ l.invariant

pub returns : goal.returns
unfolding blank_from
returns c =
    let l = c.loop-page in
    let e : c.args.sizes.pages - l.page ≡ 0 = omega arith in
    rw e at l.invariant
