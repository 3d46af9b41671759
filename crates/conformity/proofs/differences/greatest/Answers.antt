use Rattle.conformity.proofs.Names.{◌≡◌, refl, ◌∙◌, ◌/◌, ◌<◌, rules, arith, length, w64, SFits, to_z-of_z, pairs_lent, pair_at, difference_at}
use Rattle.conformity.proofs.Exacts.{deviation-at}
use Rattle.conformity.proofs.Greatest.{greatest-end, greatest-next, own-at, follows_on}
use Rattle.conformity.proofs.differences.greatest.Goals as goal

pub loop-i-init : goal.loop-i-init
loop-i-init c = (search rules, record { most = omega arith; below = λ l k e. absurd (omega arith) }, search rules)

pub passed-before-requires : goal.passed-before-requires
passed-before-requires c =
    let f : SFits w64 (pair_at c.args.own.now c.loop-i.i).point = search rules in
    let h = c.loop-i.invariant.1 in
    (h.most, λ k e. rw (to_z-of_z f) (h.below (omega (arith, c.loop-i-test.true)) k e))

pub correction_at-requires : goal.correction_at-requires
correction_at-requires c = (c.requires.1, c.passed-before.ensures)

pub difference-requires : goal.difference-requires
difference-requires c =
    let f : SFits w64 (pair_at c.args.own.now c.loop-i.i).deviation = search rules in (
      rw (to_z-of_z f) (deviation-at c.args.own.now c.requires.0 (pair_at c.args.own.now c.loop-i.i) c.loop-i.i (omega (arith, c.loop-i-test.true)) refl),
      c.correction_at.ensures.sized,
    )

pub loop-i-preserved : goal.loop-i-preserved
loop-i-preserved c =
    let own = c.args.own.now in
    let other = c.args.other.now in
    let i = c.loop-i.i in
    let less : i < length own / 2 = omega (arith, c.loop-i-test.true) in
    let fp : SFits w64 (pair_at own i).point = search rules in
    let fs : SFits w64 (pair_at own i).deviation = search rules in
    let found = rw (to_z-of_z fp) at c.correction_at.ensures in
    let is : c.difference.result ≡ difference_at (pairs_lent own) (pairs_lent other) (pair_at own i).point =
    (rw (to_z-of_z fs) at (c.difference.ensures.0 _ found)) ∙ own-at own other c.requires.0 c.requires.1 i less in
    let inv = c.loop-i.invariant in (
      omega (arith, c.max-most.ensures, c.difference.ensures.1, inv.0),
      follows_on own other c.passed-before.result i c.requires.0 (rw (to_z-of_z fp) at c.passed-before.ensures),
      omega (arith, c.max-most.ensures, is, greatest-next (difference_at (pairs_lent own) (pairs_lent other)) own i less, inv.2),
    )

pub returns : goal.returns
returns c = (omega (arith, greatest-end (difference_at (pairs_lent c.args.own.now) (pairs_lent c.args.other.now)) c.args.own.now c.loop-i.i (omega (arith, c.loop-i-test.false)), c.loop-i.invariant.2), c.loop-i.invariant.0)
