use Rattle.build.proofs.Names.{sym, ◌∙◌, rules, same_of, segment_start}
use Rattle.build.proofs.Coding.{encode-of-word}
use Rattle.build.proofs.SegmentPlans.{start-refused, start-wrong, start-down, start-good}
use Rattle.build.proofs.Handed.{handed}
use Rattle.build.proofs.curve_plan.code_start.Goals as goal

pub returns-in_err-check_count : goal.returns-in_err-check_count
returns-in_err-check_count c =
    let a = c.args in
    let coded = sym (same_of c.in_ok-start.was (c.encode_start.ensures ∙ encode-of-word segment_start a.i {figure = a.segment.start} (search rules))) in
    let count = sym (same_of c.in_err-check_count.was c.check_count.ensures) in
    rw (handed c.from_residual-in_err-check_count.result c.from_residual-in_err-check_count.ensures) (sym (start-down (a.before) a.i a.total a.segment coded (sym c.start_follows.ensures ∙ c.if-not-start_follows.false) count))

pub returns : goal.returns
returns c =
    let a = c.args in
    let coded = sym (same_of c.in_ok-start.was (c.encode_start.ensures ∙ encode-of-word segment_start a.i {figure = a.segment.start} (search rules))) in
    let count = sym (same_of c.in_ok-check_count.was c.check_count.ensures) in
    sym (start-good (a.before) a.i a.total a.segment coded (sym c.start_follows.ensures ∙ c.if-not-start_follows.false) count)

pub returns-in_err-start : goal.returns-in_err-start
returns-in_err-start c =
    let a = c.args in
    let down = c.encode_start.ensures ∙ encode-of-word segment_start a.i {figure = a.segment.start} (search rules) in
    rw (handed c.from_residual.result c.from_residual.ensures) (sym (start-refused (a.before) a.i a.total a.segment (sym (same_of c.in_err-start.was down))))

pub returns-then-not-start_follows : goal.returns-then-not-start_follows
returns-then-not-start_follows c =
    let a = c.args in
    let coded = sym (same_of c.in_ok-start.was (c.encode_start.ensures ∙ encode-of-word segment_start a.i {figure = a.segment.start} (search rules))) in
    cc (start-wrong (a.before) a.i a.total a.segment coded (sym c.start_follows.ensures ∙ c.if-not-start_follows.true))
