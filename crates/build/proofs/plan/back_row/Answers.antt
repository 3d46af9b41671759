use Rattle.build.proofs.Names.{◌∙◌, back-same, back-listed}
use Rattle.build.proofs.plan.back_row.Goals as goal

pub bridge_row-requires : goal.bridge_row-requires
bridge_row-requires c = back-listed c.requires

pub returns : goal.returns
returns c = λ layout. c.bridge_row.ensures ∙ back-same layout _ c.requires
