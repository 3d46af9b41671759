use Rattle.templates.proofs.rows.any.Goals as goal

pub returns : goal.returns
returns c = rw (← c.all_ones.ensures) c.always.ensures
