use Rattle.sheet.proofs.Names.{ap, value_in}
use Rattle.sheet.proofs.Steps.{field-missed, field-lies, value-means, value-refused}
use Rattle.sheet.proofs.held.unscaled_at.Goals as goal

pub decode_unscaled-requires : goal.decode_unscaled-requires
decode_unscaled-requires c =
    let a = c.args in
    (c.requires.1, c.requires.2, field-lies a.sizes a.image.now a.cursor.at a.row _ c.take.ensures c.in-Ok.is)

pub returns-in-Err : goal.returns-in-Err
returns-in-Err c =
    let a = c.args in
    ap value_in (field-missed a.sizes a.image.now a.cursor.at a.row _ c.take.ensures c.in-Err.is)

pub returns-in-Err-decode_unscaled : goal.returns-in-Err-decode_unscaled
returns-in-Err-decode_unscaled c =
    let a = c.args in
    value-refused a.sizes a.image.now a.cursor.at a.row _ c.take.ensures c.in-Ok.is _ c.decode_unscaled.ensures c.in-Err-decode_unscaled.is

pub returns-in-Ok-decode_unscaled : goal.returns-in-Ok-decode_unscaled
returns-in-Ok-decode_unscaled c =
    let a = c.args in
    value-means a.sizes a.image.now a.cursor.at a.row _ c.take.ensures c.in-Ok.is _ c.decode_unscaled.ensures c.in-Ok-decode_unscaled.is
