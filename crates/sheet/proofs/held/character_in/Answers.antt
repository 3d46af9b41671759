use Rattle.sheet.proofs.Names.{rules, ap, ◌∙◌, arith, good-same, no_value_lem, stream_in}
use Rattle.sheet.proofs.Steps.{got, past, bits-lt}
use Rattle.sheet.proofs.HeldLaws.{held_whole, place-few, held-character}
use Rattle.sheet.proofs.held.character_in.Goals as goal

pub locate_character-requires : goal.locate_character-requires
locate_character-requires c = place-few c.requires.0.opens c.args.index c.requires.1

pub take-requires : goal.take-requires
take-requires c = (held_whole c.requires.0.opens, search rules, search rules)

pub overflow_cast-result : goal.overflow_cast-result
overflow_cast-result c =
    let a = c.args in
    omega (arith, bits-lt (stream_in a.sheet.sizes a.image.now) _ 7 (got a.sheet.sizes a.image.now _ 7 _ c.take.ensures c.in-Ok.is))

pub returns-in-Err : goal.returns-in-Err
returns-in-Err c =
    let a = c.args in
    λ kind x h.
    no_value_lem
    (past a.sheet.sizes a.image.now _ 7 _ c.take.ensures c.in-Err.is ∙ held-character h a.index c.requires.1 c.locate_character.ensures)

pub returns-in-Ok : goal.returns-in-Ok
returns-in-Ok c =
    let a = c.args in
    λ kind x h.
    ap (λ y. y.found) (good-same
    (got a.sheet.sizes a.image.now _ 7 _ c.take.ensures c.in-Ok.is ∙ held-character h a.index c.requires.1 c.locate_character.ensures))
