use Rattle.templates.proofs.rows.scaled.Goals as goal

pub returns : goal.returns
returns c = rw (← c.scale_width.ensures) c.optional.ensures
