use Rattle.promises.proofs.lent.content_at.Goals as goal

pub returns : goal.returns
returns c = (rw (c.byte_at.ensures, c.value_at.ensures.0, c.code_at.ensures, c.code_at-2.ensures), c.value_at.ensures.1)
