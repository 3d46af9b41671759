use Rattle.commands.proofs.Names.{◌∙◌}
use Rattle.commands.proofs.builds.domain_of.Goals as goal

pub returns : goal.returns
returns c = c.flag_of.ensures ∙ rw c.word.ensures
