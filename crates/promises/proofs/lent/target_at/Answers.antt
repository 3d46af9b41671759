use Rattle.promises.proofs.lent.target_at.Goals as goal

pub returns : goal.returns
returns c = rw (c.byte_at.ensures, c.level_of.ensures, c.byte_at-2.ensures)
