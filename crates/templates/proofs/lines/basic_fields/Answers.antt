use Rattle.templates.proofs.Names.{refl, basic}
use Rattle.templates.proofs.lines.basic_fields.Goals as goal

pub returns : goal.returns
unfolding basic
returns c = refl
