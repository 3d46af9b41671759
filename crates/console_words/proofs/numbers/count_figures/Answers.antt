use Rattle.console_words.proofs.Names.{◌≡◌, ◌<◌, ◌+◌, ◌-◌, arith, sym, ◌∙◌, rules, tests, eqb, length, length-drop, take, take_all, drop, position_from_yields_List, YieldsList-from_slice}
use Rattle.console_words.proofs.FilledLaws.{count-start, count-on, count-end, count-stop, count-full}
use Rattle.console_words.proofs.ListLaws.{list-parts, list-some, part-next}
use Rattle.console_words.proofs.numbers.count_figures.Goals as goal

pub loop-count-init : goal.loop-count-init
loop-count-init c = rw (list-parts c.args.word.now (sym c.if-is_minus.ensures)) (count-start _ _)

pub returns-in_err-figure_of : goal.returns-in_err-figure_of
returns-in_err-figure_of c =
    let rest = c.loop-count.rest.now in
    let p = part-next rest c.position.result c.unwrap_or-end.result (position_from_yields_List (λ b. eqb b 44) _ _ c.position.result c.position.ensures.ran (YieldsList-from_slice rest c.iter.ensures.rest) (λ x b q k. search (rules, tests))) c.unwrap_or-end.ensures in
    rw c.from_residual.ensures
    (count-stop _ _ _ _ c.loop-count.invariant p.others (rw (sym c.figure_of.ensures ∙ c.in_err-figure_of.was) at p.is))

pub returns-then-end-rest : goal.returns-then-end-rest
returns-then-end-rest c =
    let rest = c.loop-count.rest.now in
    let p = part-next rest c.position.result c.unwrap_or-end.result (position_from_yields_List (λ b. eqb b 44) _ _ c.position.result c.position.ensures.ran (YieldsList-from_slice rest c.iter.ensures.rest) (λ x b q k. search (rules, tests))) c.unwrap_or-end.ensures in
    count-end _ _ _ _
    (count-on _ _ _ _ c.loop-count.invariant _ p.others (rw (sym c.figure_of.ensures ∙ c.in_ok-figure_of.was) at p.is) c.loop-count-test.true) (p.last (omega (arith, c.if-end-rest.true)))

pub loop-count-preserved : goal.loop-count-preserved
loop-count-preserved c =
    let rest = c.loop-count.rest.now in
    let p = part-next rest c.position.result c.unwrap_or-end.result (position_from_yields_List (λ b. eqb b 44) _ _ c.position.result c.position.ensures.ran (YieldsList-from_slice rest c.iter.ensures.rest) (λ x b q k. search (rules, tests))) c.unwrap_or-end.ensures in
    let after = c.unwrap_or-end.result + 1 in
    let whole : take (length rest - after) (drop after rest) ≡ drop after rest = take_all _ (drop after rest) (omega (arith, length-drop after rest)) in
    let short : c.unwrap_or-end.result < length rest = search rules in
    rw (whole, ← p.more short) (count-on _ _ _ _ c.loop-count.invariant _ p.others (rw (sym c.figure_of.ensures ∙ c.in_ok-figure_of.was) at p.is) c.loop-count-test.true)

pub returns : goal.returns
returns c = count-full _ _ _ _ c.loop-count.invariant (list-some c.loop-count.rest.now) c.loop-count-test.false
