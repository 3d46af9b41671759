use Rattle.refusal.proofs.Outcomes.{exits}
use Rattle.sheet.proofs.Names.{ap, refl, sym, ◌∙◌, arith, said_of, segment_of, behind_segment, segments_of, stream_in, passed, segment_step_said}
use Rattle.sheet.proofs.CurveSteps.{passed-done, passed-halts, passed-next, total-few}
use Rattle.sheet.proofs.curve_block.take_segments.Goals as goal

pub loop-left-init : goal.loop-left-init
loop-left-init c = (omega arith, refl)

pub take_segment-requires : goal.take_segment-requires
take_segment-requires c = (c.requires, c.loop-left.invariant.0)

pub returns-in_err-last : goal.returns-in_err-last
unfolding segments_of
returns-in_err-last c =
    let a = c.args in
    ap segment_step_said (exits _ c.from_residual.ensures) ∙ (sym (passed-halts (stream_in a.sizes a.image.now) segment_of behind_segment (passed c.loop-left.before c.loop-left.terms) _ _ c.loop-left-test.true (said_of segment_step_said c.in_err-last.was c.take_segment.ensures)) ∙ c.loop-left.invariant.1)

pub loop-left-preserved : goal.loop-left-preserved
loop-left-preserved c =
    let a = c.args in
    let stand = passed c.loop-left.before c.loop-left.terms in (
      total-few (stream_in a.sizes a.image.now) stand c.loop-left.cursor.at c.take_segment.ensures c.in_ok-last.was,
      sym (passed-next (stream_in a.sizes a.image.now) segment_of behind_segment stand _ _ c.loop-left-test.true (said_of segment_step_said c.in_ok-last.was c.take_segment.ensures)) ∙ c.loop-left.invariant.1,
    )

pub returns : goal.returns
unfolding segments_of
returns c =
    let a = c.args in
    sym (passed-done (stream_in a.sizes a.image.now) segment_of behind_segment (passed c.loop-left.before c.loop-left.terms) _ _ c.loop-left-test.false) ∙ c.loop-left.invariant.1
