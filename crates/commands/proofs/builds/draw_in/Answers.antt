use Rattle.commands.proofs.Names.{ap, Some, text_in, same_of}
use Rattle.commands.proofs.BuildLaws.{filled-front}
use Rattle.commands.proofs.builds.draw_in.Goals as goal

pub returns-in_err-characters : goal.returns-in_err-characters
returns-in_err-characters c = rw (c.from_residual.ensures, ← filled-front (text_in c.args.line.now c.args.end) c.args.text.now c.text_of.new.text c.in_err-characters.was c.text_of.ensures)

pub returns : goal.returns
returns c = rw (← filled-front (text_in c.args.line.now c.args.end) c.args.text.now c.text_of.new.text c.in_ok-characters.was c.text_of.ensures, ← same_of c.in_ok-curve.was c.curve_in.ensures, ← c.front-text.ensures) (ap Some c.build_curve.ensures.0)
