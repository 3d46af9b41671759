use Rattle.commands.proofs.builds.is_whole.Goals as goal

pub returns-then-is_drawn : goal.returns-then-is_drawn
returns-then-is_drawn c = rw (← c.is_drawn.ensures, c.if-is_drawn.true, ← c.word_count.ensures)

pub returns : goal.returns
returns c = rw (← c.is_drawn.ensures, c.if-is_drawn.false, ← c.word_count-2.ensures)
