use Rattle.commands.proofs.Names.{figures}
use Rattle.commands.proofs.ReplyLaws.{lent-image, lent-front}
use Rattle.commands.proofs.conformities.conform_reply.Goals as goal

pub returns-in_err-chip : goal.returns-in_err-chip
returns-in_err-chip c = rw (c.from_residual.ensures, ← lent-image c.args.line.now c.args.room.now c.lent.new.room c.in_err-chip.was c.lent.ensures)

pub returns-in_err-figures : goal.returns-in_err-figures
returns-in_err-figures c = rw (c.from_residual-in_err-figures.ensures, ← lent-image c.args.line.now c.args.room.now c.lent.new.room c.in_ok-chip.was c.lent.ensures, ← lent-front figures c.args.points.now c.figures_of.new.out c.in_err-figures.was c.figures_of.ensures c.word.ensures)

pub returns : goal.returns
returns c = rw (← lent-image c.args.line.now c.args.room.now c.lent.new.room c.in_ok-chip.was c.lent.ensures, ← lent-front figures c.args.points.now c.figures_of.new.out c.in_ok-figures.was c.figures_of.ensures c.word.ensures, ← c.front-image.ensures, ← c.front_figures-points.ensures, ← c.conformity.ensures)
