use Rattle.sheet.proofs.Names.{rules, ap, ◌∙◌, arith, good-same, no_value_lem, stream_in, pair_in, pair_from}
use Rattle.sheet.proofs.Steps.{got, past, bits-lt}
use Rattle.sheet.proofs.HeldLaws.{held_whole, behind-few, index-few, held-pair}
use Rattle.sheet.proofs.held.pair_in.Goals as goal

pub locate_pair-requires : goal.locate_pair-requires
locate_pair-requires c = (omega (arith, behind-few c.requires.0.opens), index-few c.requires.0.opens c.args.index c.requires.1)

pub take-requires : goal.take-requires
take-requires c = (held_whole c.requires.0.opens, search rules, search rules)

pub pair_of-requires : goal.pair_of-requires
pair_of-requires c =
    let a = c.args in
    bits-lt (stream_in a.sheet.sizes a.image.now) _ 37 (got a.sheet.sizes a.image.now _ 37 _ c.take.ensures c.in-Ok.is)

pub returns-in-Err : goal.returns-in-Err
returns-in-Err c =
    let a = c.args in
    λ kind x h.
    no_value_lem
    (past a.sheet.sizes a.image.now _ 37 _ c.take.ensures c.in-Err.is ∙ (held-pair h a.index c.requires.1 c.locate_pair.ensures).0)

pub returns-in-Ok : goal.returns-in-Ok
returns-in-Ok c =
    let a = c.args in
    λ kind x h.
    let (stands, is) = held-pair h a.index c.requires.1 c.locate_pair.ensures in
    c.pair_of.ensures
    ∙ ap (λ y. pair_in (pair_from 0 y.found)) (good-same (got a.sheet.sizes a.image.now _ 37 _ c.take.ensures c.in-Ok.is ∙ stands))
    ∙ is
