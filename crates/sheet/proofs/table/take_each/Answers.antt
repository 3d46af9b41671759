use Rattle.refusal.proofs.Outcomes.{exits}
use Rattle.sheet.proofs.Names.{step_said, ap, rules, refl, sym, ◌∙◌, None, ℕ, pairs_of, stream_in}
use Rattle.sheet.proofs.Steps.{count-start, count-done}
use Rattle.sheet.proofs.TableSteps.{pairs-halt, pairs_next}
use Rattle.sheet.proofs.table.take_each.Goals as goal

pub loop-left-init : goal.loop-left-init
loop-left-init c = let a = c.args in (search rules, count-start (stream_in a.sizes a.image.now) (λ (n : ℕ). pairs_of a.domain n None) a.count a.start.at)

pub returns-in_err-codes : goal.returns-in_err-codes
returns-in_err-codes c =
    let a = c.args in
    ap step_said (exits _ c.from_residual.ensures) ∙ (sym (pairs-halt (stream_in a.sizes a.image.now) a.domain _ (c.loop-left.before) _ _ c.loop-left-test.true c.loop-left.invariant.0 _ c.take_codes.ensures c.in_err-codes.was) ∙ c.loop-left.invariant.1)

pub loop-left-preserved : goal.loop-left-preserved
loop-left-preserved c =
    let a = c.args in
    (search rules, sym (pairs_next (stream_in a.sizes a.image.now) a.domain _ (c.loop-left.before) _ _ c.loop-left-test.true c.loop-left.invariant.0 _ c.take_codes.ensures c.in_ok-codes.was) ∙ c.loop-left.invariant.1)

pub returns : goal.returns
unfolding pairs_of
returns c =
    let a = c.args in
    sym (count-done (stream_in a.sizes a.image.now) (λ (n : ℕ). pairs_of a.domain n (c.loop-left.before)) a.count _ _ refl c.loop-left-test.false) ∙ c.loop-left.invariant.1
