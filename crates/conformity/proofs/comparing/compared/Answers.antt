use Rattle.conformity.proofs.Names.{◌≡◌, sym, ap, ◌∙◌, subst, ℕ, ◌*◌, ◌≤◌, arith, take, length-take-le, pairs_lent, Contents, points, Table, Opens, points-are, opened-table}
use Rattle.conformity.proofs.Filling.{points-few}
use Rattle.conformity.proofs.Greatest.{compared_is}
use Rattle.conformity.proofs.comparing.compared.Goals as goal
use Rattle.conformity.proofs.comparing.compared.Goals.{After-stored_points-room, After-summary-1}

few : (c : After-summary-1) → c.args.sheet.summary.points ≤ 127
few c = points-few c.requires.0.opens

-- The front of the array has the sheet's pairs.
front : (c : After-stored_points-room) → (kind : ℕ) (x : Contents) → Opens kind c.args.image.now c.args.sheet x →
    pairs_lent (take (2 * c.args.sheet.summary.points) c.stored_points-room.result) ≡ points x
front c kind x h = ap (λ (n : ℕ). pairs_lent (take (2 * n) c.stored_points-room.result)) (points-are h) ∙ c.stored_points-room.ensures.1 kind x h

front-table : (c : After-stored_points-room) → Table (pairs_lent (take (2 * c.args.sheet.summary.points) c.stored_points-room.result))
front-table c = let k = c.requires.0 in subst Table (sym (front c _ _ k.opens)) (opened-table k.opens)

pub overflow_mul-end : goal.overflow_mul-end
overflow_mul-end c = omega (arith, few c)

pub slice_bounds-room-end : goal.slice_bounds-room-end
slice_bounds-room-end c = omega (arith, few (goal.at.slice_bounds-room-end c).After-summary-1)

pub slice_bounds-stored-end : goal.slice_bounds-stored-end
slice_bounds-stored-end c = sym (length-take-le _ c.stored_points-room.result (omega (arith, c.stored_points-room.ensures.0, few (goal.at.slice_bounds-stored-end c).After-summary-1)))

pub greatest-requires : goal.greatest-requires
greatest-requires c = (front-table (goal.at.greatest-requires c).After-stored_points-room, c.requires.1)

pub greatest-requires-2 : goal.greatest-requires-2
greatest-requires-2 c = (c.requires.1, front-table (goal.at.greatest-requires-2 c).After-stored_points-room)

pub overflow_add-result-2 : goal.overflow_add-result-2
overflow_add-result-2 c = omega (arith, c.max-most.ensures, c.greatest-2.ensures.1, c.greatest.ensures.1, c.requires.2)

pub returns : goal.returns
returns c =
    λ kind x h.
    compared_is c.args.slope _ (points x) (pairs_lent c.args.points.now) (front (goal.at.returns c).After-stored_points-room kind x h) c.max-most.ensures c.greatest.ensures.0 c.greatest-2.ensures.0
