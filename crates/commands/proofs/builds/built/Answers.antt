use Rattle.commands.proofs.builds.built.Goals as goal

pub returns-then-is_drawn : goal.returns-then-is_drawn
returns-then-is_drawn c = rw (← c.end_bit_word-end.ensures.0, ← c.is_drawn.ensures, c.if-is_drawn.true) c.draw_in.ensures

pub returns : goal.returns
returns c = rw (← c.end_bit_word-end.ensures.0, ← c.is_drawn.ensures, c.if-is_drawn.false) c.build_in.ensures
