use Rattle.sheet.proofs.Names.{ap, value_in}
use Rattle.sheet.proofs.Steps.{field-missed, field-lies, value-means, value-refused}
use Rattle.sheet.proofs.held.value_at.Goals as goal

pub decode-requires : goal.decode-requires
decode-requires c =
    let a = c.args in
    (c.requires.1, field-lies a.sizes a.image.now a.cursor.at a.row _ c.take.ensures c.in-Ok.is)

pub returns-in-Err : goal.returns-in-Err
returns-in-Err c =
    let a = c.args in
    ap value_in (field-missed a.sizes a.image.now a.cursor.at a.row _ c.take.ensures c.in-Err.is)

pub returns-in-Err-decode : goal.returns-in-Err-decode
returns-in-Err-decode c =
    let a = c.args in
    value-refused a.sizes a.image.now a.cursor.at a.row _ c.take.ensures c.in-Ok.is _ c.decode.ensures c.in-Err-decode.is

pub returns-in-Ok-decode : goal.returns-in-Ok-decode
returns-in-Ok-decode c =
    let a = c.args in
    value-means a.sizes a.image.now a.cursor.at a.row _ c.take.ensures c.in-Ok.is _ c.decode.ensures c.in-Ok-decode.is
