use mir.Syntax.{w64}
use Rattle.reading.proofs.Names.{sfits_of, ◌∙◌, ℕ, arith, to_z-of_z, Contents, points, Before, next-between, told-small, Opens, points-are, figure_in}
use Rattle.reading.proofs.Opening.{opened-table, opened-figures, opened-rises}
use Rattle.reading.proofs.Fractions.{none-shows, first-shows, last-shows, next-shows}
use Rattle.reading.proofs.fraction.fraction_in.Goals as goal
use Rattle.reading.proofs.fraction.fraction_in.Goals.{After-pairs_before-next}

-- The pairs before p.
found : (c : After-pairs_before-next) →
    let a = c.args in
    (kind : ℕ) (x : Contents) → Opens kind a.image.now a.sheet x → Before (figure_in a.domain) (points x) a.p c.pairs_before-next.result
found c kind x h = rw (to_z-of_z c.ranges.p) at (c.pairs_before-next.ensures.1 kind x h)

pub returns-then-count-eq0 : goal.returns-then-count-eq0
returns-then-count-eq0 c = λ kind x h. to_z-of_z c.ranges.p ∙ none-shows c.args.domain c.args.p (points x) (omega (arith, c.if-count-eq0.true, points-are h))

pub held_in-requires : goal.held_in-requires
held_in-requires c =
    let k = c.requires.0 in
    (opened-figures k.opens 0 (c.pair_in.ensures _ _ k.opens) (omega (arith, c.if-count-eq0.false)), told-small c.ranges.p c.requires.2)

pub returns-then-next-eq0 : goal.returns-then-next-eq0
returns-then-next-eq0 c =
    let q = c.pair_in in
    λ kind x h.
    to_z-of_z {w = w64} (sfits_of c.held_in.type_inv)
    ∙ (rw (to_z-of_z c.ranges.p) at c.held_in.ensures)
    ∙ first-shows c.args.domain c.args.p (points x) (rw c.if-next-eq0.true at (found (goal.at.returns-then-next-eq0 c).After-pairs_before-next kind x h)) (omega (arith, c.if-count-eq0.false, points-are h)) q.result (q.ensures kind x h)

pub held_in-requires-then-next-count : goal.held_in-requires-then-next-count
held_in-requires-then-next-count c =
    let k = c.requires.0 in
    (opened-figures k.opens _ (c.pair_in-before.ensures _ _ k.opens) (omega (arith, c.if-next-eq0.false, c.pairs_before-next.ensures.0)), told-small c.ranges.p c.requires.2)

pub returns-then-next-count : goal.returns-then-next-count
returns-then-next-count c =
    let v = c.pair_in-before in
    λ kind x h.
    to_z-of_z {w = w64} (sfits_of c.held_in-then-next-count.type_inv)
    ∙ (rw (to_z-of_z c.ranges.p) at c.held_in-then-next-count.ensures)
    ∙ last-shows c.args.domain c.args.p (points x) (opened-rises h c.args.domain c.requires.1) _ _ (omega (arith, c.if-next-eq0.false)) (found (goal.at.returns-then-next-count c).After-pairs_before-next kind x h)
    v.result (v.ensures kind x h) (omega (arith, c.if-next-count.true, points-are h))

pub between_in-requires : goal.between_in-requires
between_in-requires c =
    let v = c.pair_in-before in
    let k = c.requires.0 in (
      rw (to_z-of_z c.ranges.p)
          (next-between (figure_in c.args.domain) c.args.p (points k.holds) (opened-table k.opens) _ _ (omega (arith, c.if-next-eq0.false)) (found (goal.at.between_in-requires c).After-pairs_before-next _ _ k.opens)
          v.result (v.ensures _ _ k.opens) (omega (arith, c.if-next-count.false, c.pairs_before-next.ensures.0, points-are k.opens)) c.pair_in-2.result (c.pair_in-2.ensures _ _ k.opens)),
      told-small c.ranges.p c.requires.2,
    )

pub returns : goal.returns
returns c =
    let q = c.pair_in-2 in
    let v = c.pair_in-before in
    λ kind x h.
    to_z-of_z {w = w64} (sfits_of c.between_in.type_inv)
    ∙ (rw (to_z-of_z c.ranges.p) at c.between_in.ensures)
    ∙ next-shows c.args.domain c.args.p (points x) (opened-rises h c.args.domain c.requires.1) _ _ (omega (arith, c.if-next-eq0.false)) (found (goal.at.returns c).After-pairs_before-next kind x h)
    v.result (v.ensures kind x h) (omega (arith, c.if-next-count.false, c.pairs_before-next.ensures.0, points-are h)) q.result (q.ensures kind x h)
