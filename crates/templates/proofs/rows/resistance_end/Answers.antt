use Rattle.templates.proofs.Names.{◌∙◌}
use Rattle.templates.proofs.RowLaws.{resistance-single}
use Rattle.templates.proofs.rows.resistance_end.Goals as goal

pub returns-in-0 : goal.returns-in-0
returns-in-0 c = rw c.in-0.is c.optional.ensures

pub returns-in-1 : goal.returns-in-1
returns-in-1 c = rw c.in-1.is c.optional-in-1.ensures

pub returns-in-2 : goal.returns-in-2
returns-in-2 c = rw c.in-2.is c.optional-in-2.ensures

pub returns-in_default : goal.returns-in_default
returns-in_default c = c.optional-in_default.ensures ∙ resistance-single c.args.precision c.in_default.in_default-own.rest
