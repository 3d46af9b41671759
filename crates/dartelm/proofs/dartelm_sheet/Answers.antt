use Rattle.dartelm.proofs.Names.{sym, ap, ◌∙◌, opens, held, not_opened, struct_by, sheet_answer, field_numbers, no_fields}
use Rattle.dartelm.proofs.SheetReads.{sheet-read, sheet-refused}
use Rattle.dartelm.proofs.dartelm_sheet.Goals as goal

pub sheet_in-requires : goal.sheet_in-requires
sheet_in-requires c =
    let a = c.args in
    held a.kind a.image.now _ c.open.ensures c.in-Ok.is

pub returns-in-Err : goal.returns-in-Err
returns-in-Err c =
    let a = c.args in
    let r = not_opened a.kind a.image.now _ c.open.ensures c.in-Err.is in
    c.no_sheet.ensures ∙ sym (ap (struct_by sheet_answer field_numbers no_fields) (sheet-refused a.kind a.image.now _ r))

pub returns-in-Ok : goal.returns-in-Ok
returns-in-Ok c =
    let a = c.args in
    let (x, p) = opens a.kind a.image.now _ c.open.ensures c.in-Ok.is in
    c.sheet_in.ensures a.kind x p ∙ sym (ap (struct_by sheet_answer field_numbers no_fields) (sheet-read a.kind a.image.now x p.accepted))
