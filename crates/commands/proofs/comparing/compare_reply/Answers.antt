use Rattle.commands.proofs.Names.{figures}
use Rattle.commands.proofs.ReplyLaws.{lent-image, lent-front}
use Rattle.commands.proofs.comparing.compare_reply.Goals as goal

pub returns-in_err-chip : goal.returns-in_err-chip
returns-in_err-chip c = rw (c.from_residual.ensures, ← lent-image c.args.line.now c.args.room.now c.lent.new.room c.in_err-chip.was c.lent.ensures)

pub returns-in_err-slow_figures : goal.returns-in_err-slow_figures
returns-in_err-slow_figures c = rw (c.from_residual-in_err-slow_figures.ensures, ← lent-image c.args.line.now c.args.room.now c.lent.new.room c.in_ok-chip.was c.lent.ensures, ← lent-front figures c.args.slow.now c.figures_of.new.out c.in_err-slow_figures.was c.figures_of.ensures c.word.ensures)

pub returns-in_err-fast_figures : goal.returns-in_err-fast_figures
returns-in_err-fast_figures c = rw (c.from_residual-in_err-fast_figures.ensures, ← lent-image c.args.line.now c.args.room.now c.lent.new.room c.in_ok-chip.was c.lent.ensures, ← lent-front figures c.args.slow.now c.figures_of.new.out c.in_ok-slow_figures.was c.figures_of.ensures c.word.ensures, ← lent-front figures c.args.fast.now c.figures_of-2.new.out c.in_err-fast_figures.was c.figures_of-2.ensures c.word-2.ensures)

pub returns : goal.returns
returns c = rw (← lent-image c.args.line.now c.args.room.now c.lent.new.room c.in_ok-chip.was c.lent.ensures, ← lent-front figures c.args.slow.now c.figures_of.new.out c.in_ok-slow_figures.was c.figures_of.ensures c.word.ensures, ← lent-front figures c.args.fast.now c.figures_of-2.new.out c.in_ok-fast_figures.was c.figures_of-2.ensures c.word-2.ensures, ← c.front-image.ensures, ← c.front_figures-slow.ensures, ← c.front_figures-fast.ensures, ← c.compare.ensures)
