use Rattle.console_words.proofs.Names.{◌≡◌, sym, ◌∙◌, rules, tests, arith, w64, to_z-of_z, [], ◌∷◌, ◌++◌, ◌+◌, ◌<◌, length, length-append, drop_of_length-le, figures, YieldsList-at, YieldsList-from_enumerate, YieldsList-from_take, YieldsList-from_slice_split, YieldsList-turn, YieldsList-end}
use Rattle.console_words.proofs.FilledLaws.{counted-all, fill_start, fill_on, fill_end, fill_stop, filled-all, filled_none}
use Rattle.console_words.proofs.ListLaws.{figure-turn, numbered-long}
use Rattle.console_words.proofs.numbers.figures_of.Goals as goal

pub returns-in_err-count : goal.returns-in_err-count
returns-in_err-count c = rw c.from_residual.ensures (filled_none (figures c.args.word.now) c.args.out.now c.in_err-count.ensures)

pub loop-at-init : goal.loop-at-init
loop-at-init c = fill_start _ _

pub returns-in_err-out : goal.returns-in_err-out
returns-in_err-out c =
    let road = YieldsList-at c.into_iter-at-iterator.ensures.into_iter_gives
    (YieldsList-from_enumerate (YieldsList-at c.enumerate-at-items.ensures.source (YieldsList-from_take c.in_ok-count.count (YieldsList-at c.take.ensures.source
    (YieldsList-from_slice_split _ _ c.args.word.now c.split.ensures.rest c.split.ensures.done c.split.ensures.closure (λ x b q k. search (rules, tests)))) c.take.ensures.count)) c.enumerate-at-items.ensures.count) in
    let t = figure-turn c.args.word.now _ _ c.in_ok-count.ensures _ c.in-Some.at c.in-Some.part.now
    (YieldsList-turn road c.loop-at.yielded c.loop-at.at-iterator c.loop-at.yielded_by c.next.result c.next.new.self (c.in-Some.at, c.in-Some.part) c.in-Some.is c.next.ensures.steps) in
    rw c.from_residual-in_err-out.ensures
    (fill_stop _ _ _ _ _ c.loop-at.invariant _ (rw (sym c.figure_of.ensures ∙ c.in_err-out.was) at t.is) ∙ filled-all (figures c.args.word.now) c.args.out.now c.in_ok-count.ensures)

pub offset_bounds-out-at : goal.offset_bounds-out-at
offset_bounds-out-at c =
    let road = YieldsList-at c.into_iter-at-iterator.ensures.into_iter_gives
    (YieldsList-from_enumerate (YieldsList-at c.enumerate-at-items.ensures.source (YieldsList-from_take c.in_ok-count.count (YieldsList-at c.take.ensures.source
    (YieldsList-from_slice_split _ _ c.args.word.now c.split.ensures.rest c.split.ensures.done c.split.ensures.closure (λ x b q k. search (rules, tests)))) c.take.ensures.count)) c.enumerate-at-items.ensures.count) in
    let t = figure-turn c.args.word.now _ _ c.in_ok-count.ensures _ c.in-Some.at c.in-Some.part.now
    (YieldsList-turn road c.loop-at.yielded c.loop-at.at-iterator c.loop-at.yielded_by c.next.result c.next.new.self (c.in-Some.at, c.in-Some.part) c.in-Some.is c.next.ensures.steps) in
    let l : c.in-Some.at < length c.loop-at.out = omega (arith, t.index, t.within) in
    search rules

pub bounds-out-at : goal.bounds-out-at
bounds-out-at c =
    let road = YieldsList-at c.into_iter-at-iterator.ensures.into_iter_gives
    (YieldsList-from_enumerate (YieldsList-at c.enumerate-at-items.ensures.source (YieldsList-from_take c.in_ok-count.count (YieldsList-at c.take.ensures.source
    (YieldsList-from_slice_split _ _ c.args.word.now c.split.ensures.rest c.split.ensures.done c.split.ensures.closure (λ x b q k. search (rules, tests)))) c.take.ensures.count)) c.enumerate-at-items.ensures.count) in
    let t = figure-turn c.args.word.now _ _ c.in_ok-count.ensures _ c.in-Some.at c.in-Some.part.now
    (YieldsList-turn road c.loop-at.yielded c.loop-at.at-iterator c.loop-at.yielded_by c.next.result c.next.new.self (c.in-Some.at, c.in-Some.part) c.in-Some.is c.next.ensures.steps) in
    omega (arith, t.index, t.within)

pub loop-at-preserved : goal.loop-at-preserved
loop-at-preserved c =
    let road = YieldsList-at c.into_iter-at-iterator.ensures.into_iter_gives
    (YieldsList-from_enumerate (YieldsList-at c.enumerate-at-items.ensures.source (YieldsList-from_take c.in_ok-count.count (YieldsList-at c.take.ensures.source
    (YieldsList-from_slice_split _ _ c.args.word.now c.split.ensures.rest c.split.ensures.done c.split.ensures.closure (λ x b q k. search (rules, tests)))) c.take.ensures.count)) c.enumerate-at-items.ensures.count) in
    let t = figure-turn c.args.word.now _ _ c.in_ok-count.ensures _ c.in-Some.at c.in-Some.part.now
    (YieldsList-turn road c.loop-at.yielded c.loop-at.at-iterator c.loop-at.yielded_by c.next.result c.next.new.self (c.in-Some.at, c.in-Some.part) c.in-Some.is c.next.ensures.steps) in
    let n : length (c.loop-at.yielded ++ ((c.in-Some.at, c.in-Some.part) ∷ [])) ≡ length c.loop-at.yielded + 1 = length-append c.loop-at.yielded ((c.in-Some.at, c.in-Some.part) ∷ []) in
    rw (n, t.index, to_z-of_z {w = w64} {z = c.in_ok-out.field-0} (search rules))
    (fill_on _ _ _ _ _ c.loop-at.invariant _ _ (rw (sym c.figure_of.ensures ∙ c.in_ok-out.was) at t.is) (omega (arith, t.within)))

pub returns : goal.returns
returns c =
    let said = figures c.args.word.now in
    let road = YieldsList-at c.into_iter-at-iterator.ensures.into_iter_gives
    (YieldsList-from_enumerate (YieldsList-at c.enumerate-at-items.ensures.source (YieldsList-from_take c.in_ok-count.count (YieldsList-at c.take.ensures.source
    (YieldsList-from_slice_split _ _ c.args.word.now c.split.ensures.rest c.split.ensures.done c.split.ensures.closure (λ x b q k. search (rules, tests)))) c.take.ensures.count)) c.enumerate-at-items.ensures.count) in
    let seen = YieldsList-end road c.loop-at.yielded c.loop-at.at-iterator c.loop-at.yielded_by c.next.result c.next.new.self c.in-None.is c.next.ensures.steps in
    let e : c.in_ok-count.count ≡ length c.loop-at.yielded = sym (numbered-long c.args.word.now _ _ c.in_ok-count.ensures) ∙ sym seen.1 in
    rw e (fill_end _ _ _ _ _ c.loop-at.invariant (drop_of_length-le said (omega (arith, (counted-all said _ _ c.in_ok-count.ensures).0)))) ∙ filled-all said c.args.out.now c.in_ok-count.ensures
