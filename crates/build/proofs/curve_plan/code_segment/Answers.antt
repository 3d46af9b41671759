use Rattle.build.proofs.Names.{sym, same_of}
use Rattle.build.proofs.SegmentPlans.{two_down, segment-refused, segment-coded}
use Rattle.build.proofs.Handed.{handed}
use Rattle.build.proofs.curve_plan.code_segment.Goals as goal

pub returns-in_err-code : goal.returns-in_err-code
returns-in_err-code c =
    let a = c.args in
    rw (handed c.from_residual.result c.from_residual.ensures) (two_down (segment-refused (a.before) a.i a.total a.segment (sym (same_of c.in_err-code.was c.code_start.ensures))))

pub returns : goal.returns
returns c =
    let a = c.args in
    rw (c.segment_start.ensures, c.term_count.ensures) (segment-coded (a.before) a.i a.total a.segment (sym (same_of c.in_ok-code.was c.code_start.ensures)))
