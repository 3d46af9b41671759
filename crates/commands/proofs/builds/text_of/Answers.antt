use Rattle.commands.proofs.Names.{◌∙◌}
use Rattle.commands.proofs.builds.text_of.Goals as goal

pub returns : goal.returns
returns c = c.bytes_of.ensures ∙ rw c.word.ensures
