use Rattle.memory.proofs.Names.{◌≡◌, refl, sym, ap, ◌∙◌, ◌-◌, arith, false, is_good, sums_from, Good, Wrong, Blank}
use Rattle.memory.proofs.SumLaws.{turn-good, turn-wrong}
use Rattle.memory.specs.declared.pages.PageTest.{PageTest}
use Rattle.memory.proofs.pages.test_pages.Goals as goal

not-good : (t : PageTest) → (t ≡ Good → ⊥) → is_good t ≡ false
not-good Good n = absurd (n refl)
not-good Wrong n = refl
not-good Blank n = refl

pub returns-in_default : goal.returns-in_default
returns-in_default c =
    let a = c.args in
    let l = c.loop-page in
    sym (turn-wrong a.sizes a.image.now a.sizes.pages l.page c.loop-page-test.true (sym (ap is_good c.test_page.ensures) ∙ not-good _ c.in_default.not-Good))
    ∙ l.invariant

pub loop-page-preserved : goal.loop-page-preserved
loop-page-preserved c =
    let a = c.args in
    let l = c.loop-page in
    sym (turn-good a.sizes a.image.now a.sizes.pages l.page c.loop-page-test.true (sym (ap is_good c.test_page.ensures) ∙ ap is_good c.in-Good.is))
    ∙ l.invariant

pub returns : goal.returns
unfolding sums_from
returns c =
    let l = c.loop-page in
    let e : c.args.sizes.pages - l.page ≡ 0 = omega arith in
    rw e at l.invariant
