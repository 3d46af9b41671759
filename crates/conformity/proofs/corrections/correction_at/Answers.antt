use Rattle.conformity.proofs.Names.{refl, subst, arith, to_z-of_z, pairs_lent, pairs-length, Exact}
use Rattle.conformity.proofs.Exacts.{exact_none, deviation-at, first-at, last-at, between-at, next-at}
use Rattle.conformity.proofs.corrections.correction_at.Goals as goal

pub returns-then-count-eq0 : goal.returns-then-count-eq0
returns-then-count-eq0 c = exact_none _ c.args.p (pairs_lent c.args.points.now) refl refl refl (omega (arith, pairs-length c.args.points.now, c.if-count-eq0.true))

pub held-requires : goal.held-requires
held-requires c = deviation-at c.args.points.now c.requires.0 c.pair_at.result 0 (omega (arith, c.if-count-eq0.false)) c.pair_at.ensures

pub returns-then-n-eq0 : goal.returns-then-n-eq0
returns-then-n-eq0 c =
    subst (Exact c.held.result)
    (first-at c.args.points.now c.requires.0 c.args.p c.args.n c.requires.1 c.if-n-eq0.true (omega (arith, c.if-count-eq0.false)) c.pair_at.result c.pair_at.ensures)
    c.held.ensures

pub pair_at-before-requires : goal.pair_at-before-requires
pair_at-before-requires c = omega (arith, c.requires.1.most, pairs-length c.args.points.now, c.if-n-eq0.false)

pub held-requires-then-n-count : goal.held-requires-then-n-count
held-requires-then-n-count c = deviation-at c.args.points.now c.requires.0 c.pair_at-before.result _ (omega (arith, c.requires.1.most, pairs-length c.args.points.now, c.if-n-eq0.false)) c.pair_at-before.ensures

pub returns-then-n-count : goal.returns-then-n-count
returns-then-n-count c =
    subst (Exact c.held-then-n-count.result)
    (last-at c.args.points.now c.requires.0 c.args.p c.args.n c.requires.1 _ (omega (arith, c.if-n-eq0.false)) c.pair_at-before.result c.pair_at-before.ensures c.if-n-count.true)
    c.held-then-n-count.ensures

pub pair_at-requires-2 : goal.pair_at-requires-2
pair_at-requires-2 c = omega (arith, c.requires.1.most, pairs-length c.args.points.now, c.if-n-count.false)

pub between-requires : goal.between-requires
between-requires c =
    rw (to_z-of_z c.ranges.p)
    (between-at c.args.points.now c.requires.0 c.args.p c.args.n c.requires.1 _ (omega (arith, c.if-n-eq0.false)) c.pair_at-before.result c.pair_at-before.ensures
    (omega (arith, c.requires.1.most, pairs-length c.args.points.now, c.if-n-count.false)) c.pair_at-2.result c.pair_at-2.ensures)

pub returns : goal.returns
returns c =
    subst (Exact c.between.result)
    (next-at c.args.points.now c.requires.0 c.args.p c.args.n c.requires.1 _ (omega (arith, c.if-n-eq0.false)) c.pair_at-before.result c.pair_at-before.ensures
    (omega (arith, c.requires.1.most, pairs-length c.args.points.now, c.if-n-count.false)) c.pair_at-2.result c.pair_at-2.ensures)
    (rw (to_z-of_z c.ranges.p) at c.between.ensures)
