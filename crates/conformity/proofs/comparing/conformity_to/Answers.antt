use Rattle.conformity.proofs.Names.{sym, ap, ◌∙◌, Some, Ok, pairs_lent, taking, resistance-is, compared}
use Rattle.conformity.proofs.Orders.{compares, opened-straight, opened-bent}
use Rattle.conformity.proofs.comparing.conformity_to.Goals as goal

pub compared-requires : goal.compared-requires
compared-requires c =
    let t = taking c.args.points.now c.args.beforehand c.requires.2 in
    (c.requires.0, t.table, t.slope)

pub returns-then-is_straight : goal.returns-then-is_straight
returns-then-is_straight c =
    λ kind x h.
    ap (λ d. Ok (Some d)) (c.compared.ensures kind x h)
    ∙ ap (λ table. Ok (compared c.args.beforehand.slope (pairs_lent c.args.points.now) table)) (sym (opened-straight h (sym c.is_straight.ensures ∙ c.if-is_straight.true)))
    ∙ compares kind c.args.image.now c.args.points.now h.accepted (resistance-is h ∙ c.requires.1) c.requires.2

pub returns : goal.returns
returns c =
    λ kind x h.
    ap (λ table. Ok (compared c.args.beforehand.slope (pairs_lent c.args.points.now) table)) (sym (opened-bent h (sym c.is_straight.ensures ∙ c.if-is_straight.false)))
    ∙ compares kind c.args.image.now c.args.points.now h.accepted (resistance-is h ∙ c.requires.1) c.requires.2
