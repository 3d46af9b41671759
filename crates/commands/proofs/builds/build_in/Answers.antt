use Rattle.commands.proofs.Names.{ap, Some, same_of, text_in, points_in}
use Rattle.commands.proofs.BuildLaws.{filled-front}
use Rattle.commands.proofs.builds.build_in.Goals as goal

pub returns-in_err-characters : goal.returns-in_err-characters
returns-in_err-characters c = rw (c.from_residual-in_err-characters.ensures, ← same_of c.in_ok-domain.was c.domain_of.ensures, ← filled-front (text_in c.args.line.now c.args.end) c.args.text.now c.text_of.new.text c.in_err-characters.was c.text_of.ensures)

pub returns-in_err-figures : goal.returns-in_err-figures
returns-in_err-figures c = rw (c.from_residual-in_err-figures.ensures, ← same_of c.in_ok-domain.was c.domain_of.ensures, ← filled-front (text_in c.args.line.now c.args.end) c.args.text.now c.text_of.new.text c.in_ok-characters.was c.text_of.ensures, ← filled-front (points_in c.args.line.now c.args.end) c.args.points.now c.points_of.new.points c.in_err-figures.was c.points_of.ensures)

pub returns : goal.returns
returns c = rw (← same_of c.in_ok-domain.was c.domain_of.ensures, ← filled-front (text_in c.args.line.now c.args.end) c.args.text.now c.text_of.new.text c.in_ok-characters.was c.text_of.ensures, ← filled-front (points_in c.args.line.now c.args.end) c.args.points.now c.points_of.new.points c.in_ok-figures.was c.points_of.ensures, ← c.front-text.ensures, ← c.front_figures-points.ensures, ← c.domain_of-domain.ensures) (ap Some c.build.ensures.0)
