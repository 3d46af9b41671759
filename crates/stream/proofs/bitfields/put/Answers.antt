use Rattle.stream.proofs.Names.{arith}
use Rattle.stream.proofs.Words.{high-bits-lt}
use Rattle.stream.proofs.Runs.{side-image, side, side-first, side-rest}
use Rattle.stream.proofs.Laying.{run-put, put-far}
use Rattle.stream.proofs.bitfields.put.Goals as goal
use Rattle.stream.proofs.bitfields.put.Goals.{Else-at-width, Then-at-width}

pub returns-then-at-width : goal.returns-then-at-width
returns-then-at-width c =
    let a = c.args in
    let k = c.checks_before-checks in
    run-put a.sizes a.image.now c.requires.0.whole.long (λ i. ((goal.at.returns-then-at-width c).Then-at-width.type_inv.image i).fits) _ a.at a.width a.code _
    (side _ c.requires.0 k.ensures c.if-at-width.true) c.requires.1 c.put_bits.ensures

pub put_bits-requires-3 : goal.put_bits-requires-3
put_bits-requires-3 c =
    let k = c.checks_before-checks in
    let rest = side-rest _ c.requires.0 k.ensures c.if-at-width.false in
    record { in_bounds = side-image _ _ c.requires.0.whole rest c.put_bits-2.auto.image (omega arith); le_width = (omega arith, omega arith, high-bits-lt _ _ _ (omega arith) c.requires.1) }

pub returns : goal.returns
returns c =
    let a = c.args in
    let k = c.checks_before-checks in
    let over = c.if-at-width.false in
    put-far a.sizes a.image.now c.requires.0.whole.long (λ i. ((goal.at.returns c).Else-at-width.type_inv.image i).fits) _ a.at a.width _ a.code _ _
    (side-first _ c.requires.0 k.ensures over) (side-rest _ c.requires.0 k.ensures over) (omega arith) (omega arith) c.requires.0.most c.requires.1
    c.put_bits-2.ensures c.put_bits-3.ensures
