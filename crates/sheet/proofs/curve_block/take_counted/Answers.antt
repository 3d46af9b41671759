use Rattle.refusal.proofs.Outcomes.{exits}
use Rattle.sheet.proofs.Names.{segment_step_said, ap, ◌∙◌, arith, term_count, is_term_count, terms-most, stream_in, code_said}
use Rattle.sheet.proofs.Steps.{carried}
use Rattle.sheet.proofs.CurveSteps.{ruled-taken}
use Rattle.sheet.proofs.curve_block.take_counted.Goals as goal

pub overflow_add-terms : goal.overflow_add-terms
overflow_add-terms c =
    let a = c.args in
    let l = terms-most c.in_ok-count.count (ruled-taken (stream_in a.sizes a.image.now) term_count is_term_count _ c.take_ruled.ensures c.in_ok-count.was) in
    record { fits = omega (arith, l, c.requires.1) }

pub returns-in_err-count : goal.returns-in_err-count
returns-in_err-count c =
    ap segment_step_said (exits _ c.from_residual.ensures) ∙ (carried (code_said _) _ c.in_err-count.was c.take_ruled.ensures)

pub returns : goal.returns
returns c = c.take_own_terms.ensures ∙ carried (code_said _) _ c.in_ok-count.was c.take_ruled.ensures
