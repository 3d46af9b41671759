use Rattle.commands.proofs.Names.{figures}
use Rattle.commands.proofs.ReplyLaws.{lent-front}
use Rattle.commands.proofs.distances.distance_reply.Goals as goal

pub returns-in_err-figures : goal.returns-in_err-figures
returns-in_err-figures c = rw (c.from_residual.ensures, ← lent-front figures c.args.points.now c.figures_of.new.out c.in_err-figures.was c.figures_of.ensures c.word.ensures)

pub returns : goal.returns
returns c = rw (← lent-front figures c.args.points.now c.figures_of.new.out c.in_ok-figures.was c.figures_of.ensures c.word.ensures, ← c.front_figures.ensures, ← c.distance.ensures)
