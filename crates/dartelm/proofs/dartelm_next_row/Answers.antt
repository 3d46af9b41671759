use Rattle.dartelm.proofs.Names.{ap, ◌∙◌, Ok, next_row}
use Rattle.dartelm.proofs.NextRows.{row-refused, row_done, row_written}
use Rattle.dartelm.proofs.dartelm_next_row.Goals as goal

pub returns-in-Err : goal.returns-in-Err
returns-in-Err c =
    let a = c.args in
    rw (c.number.ensures, c.place.ensures) (row-refused (next_row a.kind a.present.now a.wanted.now) c.next_row.ensures c.in-Err.is)

pub returns-in-Ok-None : goal.returns-in-Ok-None
returns-in-Ok-None c =
    let a = c.args in
    row_done (next_row a.kind a.present.now a.wanted.now) c.next_row.ensures (c.in-Ok-None.is ∙ ap Ok c.in-Ok-None.field-0-is)

pub returns-in-Ok-Some : goal.returns-in-Ok-Some
returns-in-Ok-Some c =
    let a = c.args in
    row_written (next_row a.kind a.present.now a.wanted.now) c.next_row.ensures (c.in-Ok-Some.is ∙ ap Ok c.in-Ok-Some.field-0-is)
