use Rattle.stream.proofs.Names.{le_refl, arith}
use Rattle.stream.proofs.Runs.{side-byte, side-eight, side-run, side-over}
use Rattle.stream.proofs.Laying.{word_lt, append-near, append-over}
use Rattle.stream.proofs.bitfields.append.Goals as goal
use Rattle.stream.proofs.bitfields.append.Goals.{After-checks_before-checks}

pub returns-then-i-edge : goal.returns-then-i-edge
returns-then-i-edge c =
    let a = c.args in
    let p = c.requires.in_stream.0 in
    let k = c.checks_before-checks.ensures in
    append-near a.sizes a.image.now p.whole.long (λ i. ((goal.at.returns-then-i-edge c).After-checks_before-checks.type_inv.image i).fits) _ a.at a.width a.code _ p.most c.requires.in_stream.1 c.requires.image_bound
    (side-byte _ p k) c.from.ensures _ (side-eight _ p k c.if-i-edge.true) c.lay_eight.ensures

pub with_check-requires : goal.with_check-requires
with_check-requires c =
    let a = c.args in
    let p = c.requires.in_stream.0 in
    let k = c.checks_before-checks.ensures in (
      word_lt a.sizes a.image.now p.whole.long (λ i. ((goal.at.with_check-requires c).After-checks_before-checks.type_inv.image i).fits) _ a.at a.width a.code _ p.most c.requires.in_stream.1 c.requires.image_bound
          (side-byte _ p k) c.from.ensures 56 (le_refl 56),
      omega arith,
      omega arith,
    )

pub returns-then-from-image : goal.returns-then-from-image
returns-then-from-image c =
    let a = c.args in
    let p = c.requires.in_stream.0 in
    let k = c.checks_before-checks.ensures in
    append-over a.sizes a.image.now p.whole.long (λ i. ((goal.at.returns-then-from-image c).After-checks_before-checks.type_inv.image i).fits) _ a.at a.width a.code _ p.most c.requires.in_stream.1 c.requires.image_bound
    (side-byte _ p k) c.from.ensures _ _ _ _ (omega arith) (omega arith) c.if-from-image.true
    (side-run _ p k) (side-over _ p k c.if-i-edge.false c.if-from-image.true) c.from-check.ensures c.with_check.ensures c.lay_eight-then-from-image.ensures
