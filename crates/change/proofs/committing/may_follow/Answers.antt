use Rattle.change.proofs.Names.{sym, ◌∙◌, not-true, not-false}
use Rattle.change.proofs.CommitLaws.{follow-other, follow-by}
use Rattle.change.proofs.committing.may_follow.Goals as goal

pub returns-then-is_other : goal.returns-then-is_other
returns-then-is_other c =
    let a = c.args in
    follow-other a.row a.stands a.field a.present a.new c.if-is_other.true

pub returns-then-not-may_stand : goal.returns-then-not-may_stand
returns-then-not-may_stand c =
    let a = c.args in
    follow-by a.row a.stands a.field a.present a.new c.if-is_other.false (sym c.may_stand.ensures ∙ not-true c.may_stand.result c.if-not-may_stand.true-raw)

pub returns : goal.returns
returns c =
    let a = c.args in
    follow-by a.row a.stands a.field a.present a.new c.if-is_other.false (sym c.may_stand.ensures ∙ not-false c.may_stand.result c.if-not-may_stand.false-raw)
