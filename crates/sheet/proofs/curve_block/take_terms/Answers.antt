use Rattle.refusal.proofs.Outcomes.{exits}
use Rattle.sheet.proofs.Names.{ap, refl, sym, ◌∙◌, said_of, term_of, behind_term, terms_of, stream_in, step_said}
use Rattle.sheet.proofs.CurveSteps.{passed-done, passed-halts, passed-next}
use Rattle.sheet.proofs.curve_block.take_terms.Goals as goal

pub loop-left-init : goal.loop-left-init
loop-left-init c = refl

pub returns-in_err-last : goal.returns-in_err-last
unfolding terms_of
returns-in_err-last c =
    let a = c.args in
    ap step_said (exits _ c.from_residual.ensures) ∙ (sym (passed-halts (stream_in a.sizes a.image.now) term_of behind_term (c.loop-left.before) _ _ c.loop-left-test.true (said_of step_said c.in_err-last.was c.take_term.ensures)) ∙ c.loop-left.invariant)

pub loop-left-preserved : goal.loop-left-preserved
loop-left-preserved c =
    let a = c.args in
    sym (passed-next (stream_in a.sizes a.image.now) term_of behind_term (c.loop-left.before) _ _ c.loop-left-test.true (said_of step_said c.in_ok-last.was c.take_term.ensures)) ∙ c.loop-left.invariant

pub returns : goal.returns
unfolding terms_of
returns c =
    let a = c.args in
    sym (passed-done (stream_in a.sizes a.image.now) term_of behind_term (c.loop-left.before) _ _ c.loop-left-test.false) ∙ c.loop-left.invariant
