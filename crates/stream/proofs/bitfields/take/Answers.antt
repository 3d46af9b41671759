use Rattle.stream.proofs.Names.{arith}
use Rattle.stream.proofs.Runs.{side, side-first, side-rest, take-near, take-far}
use Rattle.stream.proofs.bitfields.take.Goals as goal

pub returns-then-at-width : goal.returns-then-at-width
returns-then-at-width c =
    let a = c.args in
    let k = c.checks_before-checks in
    take-near a.sizes a.image.now c.requires.whole.long (λ i. (c.type_inv.image i).fits) _ a.at a.width _ c.requires.most
    c.window.ensures (side _ c.requires k.ensures c.if-at-width.true)

pub returns : goal.returns
returns c =
    let a = c.args in
    let k = c.checks_before-checks in
    let over = c.if-at-width.false in
    take-far a.sizes a.image.now c.requires.whole.long (λ i. (c.type_inv.image i).fits) _ a.at a.width _ c.requires.most
    c.window.ensures _ _ (omega arith) over (side-first _ c.requires k.ensures over) (side-rest _ c.requires k.ensures over) c.over_check.ensures
