use Rattle.commands.proofs.Names.{◌∙◌}
use Rattle.commands.proofs.builds.is_drawn.Goals as goal

pub returns : goal.returns
returns c = c.equal.ensures ∙ rw c.word.ensures
