use Rattle.refusal.proofs.Outcomes.{exits}
use Rattle.distance.proofs.Names.{◌≡◌, sym, ◌∙◌, Ok, Electrical, pairs_lent, table_pieces, List, Piece, turned_down, accepted}
use Rattle.distance.proofs.Accepted.{table-steps, distance-list, distance-refused, distance-told}
use Rattle.distance.proofs.bound.distance.Goals as goal
use Rattle.distance.proofs.bound.distance.Goals.{In_ok-check_points}

-- The table of an accepted list.
table : (c : In_ok-check_points) →
    let t = table_pieces Electrical (pairs_lent c.args.points.now) in
    (pieces : List Piece) × (t ≡ Ok pieces)
table c = accepted _ c.check_points.ensures c.in_ok-check_points.was

pub returns-then-is_wrong_list : goal.returns-then-is_wrong_list
returns-then-is_wrong_list c = cc (distance-list c.args.points.now (sym c.is_wrong_list.ensures ∙ c.if-is_wrong_list.true))

pub steepest-requires : goal.steepest-requires
steepest-requires c = table-steps Electrical (pairs_lent c.args.points.now) _ (table c).1

pub by_slope-requires : goal.by_slope-requires
by_slope-requires c = c.steepest.ensures.1

pub returns-in_err-check_points : goal.returns-in_err-check_points
returns-in_err-check_points c = exits _ c.from_residual.ensures ∙ distance-refused c.args.points.now (sym c.is_wrong_list.ensures ∙ c.if-is_wrong_list.false) (turned_down _ c.check_points.ensures c.in_err-check_points.was)

pub returns : goal.returns
returns c = cc (c.by_slope.ensures, c.steepest.ensures.0, distance-told c.args.points.now (sym c.is_wrong_list.ensures ∙ c.if-is_wrong_list.false) (table (goal.at.returns c).In_ok-check_points).1)
