use Rattle.build.proofs.Names.{sym, ◌∙◌}
use Rattle.build.proofs.SegmentPlans.{count-wrong, count-many, count-right}
use Rattle.build.proofs.curve_plan.check_count.Goals as goal

pub returns-then-too_many : goal.returns-then-too_many
returns-then-too_many c =
    let a = c.args in
    cc (count-many a.i a.total a.terms (sym c.is_term_count.ensures ∙ c.if-is_term_count.true) (sym c.too_many.ensures ∙ c.if-too_many.true))

pub returns-then-is_term_count : goal.returns-then-is_term_count
returns-then-is_term_count c =
    let a = c.args in
    sym (count-right a.i a.total a.terms (sym c.is_term_count.ensures ∙ c.if-is_term_count.true) (sym c.too_many.ensures ∙ c.if-too_many.false))

pub returns : goal.returns
returns c =
    let a = c.args in
    cc (count-wrong a.i a.total a.terms (sym c.is_term_count.ensures ∙ c.if-is_term_count.false))
