use Rattle.change.proofs.Names.{arith, ◌∙◌}
use Rattle.change.proofs.CommitLaws.{stands-not, stands_by, taken-judged}
use Rattle.change.proofs.committing.may_stand.Goals as goal

pub returns-then-code-row-gt0 : goal.returns-then-code-row-gt0
returns-then-code-row-gt0 c =
    let a = c.args in
    stands-not a.row a.code c.if-code-row-gt0.true

pub returns : goal.returns
returns c =
    let a = c.args in
    stands_by a.row a.code (omega arith) (c.is_ok.ensures.value ∙ taken-judged a.row a.code c.judge.ensures)
