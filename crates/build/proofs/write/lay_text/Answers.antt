use Rattle.build.proofs.Names.{refl, rules, arith}
use Rattle.build.proofs.Filling.{filling-none, joined-inside, joined-more, filled}
use Rattle.build.proofs.TextTurns.{chars, chars-bits, chars-fit, chars-left, chars-lt, chars-end}
use Rattle.build.proofs.write.lay_text.Goals as goal

pub loop-i-init : goal.loop-i-init
loop-i-init c = (search rules, (refl, filling-none _ c.requires.room))

pub overflow_mul-end : goal.overflow_mul-end
overflow_mul-end c = omega (arith, c.min-end.ensures)

pub pack_characters-requires : goal.pack_characters-requires
pack_characters-requires c =
    let l = c.loop-i in
    let end = c.min-end.ensures in
    (omega (arith, end, l.invariant.0), omega (arith, end), omega (arith, end), c.requires.by_index)

pub append-cursor-requires : goal.append-cursor-requires
append-cursor-requires c =
    let l = c.loop-i in
    let text = c.args.text.now in
    let h = c.loop-i-test.true in
    let at = c.min-end.ensures in
    let end = c.min-end.result in
    let bits = chars-bits text l.i end (omega (arith, at)) in
    let inside = joined-inside c.args.sizes (chars text l.i end) _ (chars-left text l.i end (omega (arith, at)) (omega (arith, at, h))) l.invariant.1.1 (omega (arith, bits, at, h)) (omega (arith, bits, at)) in
    record { in_stream = (rw bits at inside, rw c.pack_characters.ensures (chars-lt text l.i end (omega (arith, at)) c.requires.by_index)); image_bound = l.invariant.1.1.room.free.below }

pub loop-i-smaller : goal.loop-i-smaller
loop-i-smaller c = omega (arith, c.min-end.ensures)

pub loop-i-preserved : goal.loop-i-preserved
loop-i-preserved c =
    let l = c.loop-i in
    let text = c.args.text.now in
    let h = c.loop-i-test.true in
    let at = c.min-end.ensures in
    let end = c.min-end.result in
    let bits = chars-bits text l.i end (omega (arith, at)) in
    (omega (arith, at), (omega (arith, c.append-cursor.auto, l.invariant.1.0), joined-more c.args.sizes (chars text l.i end) _ (chars-left text l.i end (omega (arith, at)) (omega (arith, at, h))) l.invariant.1.1 (chars-fit text l.i end c.requires.by_index) (rw (← bits) at c.append-cursor.ensures) c.pack_characters.ensures))

pub returns : goal.returns
returns c =
    let l = c.loop-i in
    filled c.args.sizes (rw (chars-end c.args.text.now l.i c.loop-i-test.false) at l.invariant.1.1)
