use Rattle.build.proofs.Names.{◌∙◌, arith, Bridge, span-listed, front_same}
use Rattle.build.proofs.plan.front_row.Goals as goal

pub bridge_row-requires : goal.bridge_row-requires
bridge_row-requires c = (c.requires.0, span-listed Bridge (omega (arith, c.requires.1)))

pub returns : goal.returns
returns c = λ layout. c.bridge_row.ensures ∙ front_same layout _ c.requires.0 c.requires.1
