use Rattle.commands.proofs.Names.{◌∙◌}
use Rattle.commands.proofs.builds.points_of.Goals as goal

pub returns : goal.returns
returns c = c.figures_of.ensures ∙ rw c.word.ensures
