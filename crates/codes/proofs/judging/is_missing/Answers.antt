use Rattle.codes.proofs.judging.is_missing.Goals as goal

pub returns-then-row : goal.returns-then-row
returns-then-row c = rw (c.if-row.true, c.all_ones.ensures)
