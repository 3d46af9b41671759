use Rattle.dartelm.proofs.sheets.no_sheet.Goals as goal

pub returns : goal.returns
returns c = rw (c.number.ensures, c.place.ensures, c.no_value.ensures)
