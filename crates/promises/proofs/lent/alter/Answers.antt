use Rattle.promises.proofs.LentLaws.{committed, changed}
use Rattle.promises.proofs.lent.alter.Goals as goal

pub returns-then-content-eq3 : goal.returns-then-content-eq3
returns-then-content-eq3 c =
    let a = c.args in
    committed a.image.now _ a.target a.content c.if-content-eq3.true c.commit.ensures.1

pub returns : goal.returns
returns c =
    let a = c.args in
    changed a.image.now _ a.target a.content c.if-content-eq3.false c.change.ensures.1
