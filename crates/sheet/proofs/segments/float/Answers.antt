use Rattle.sheet.proofs.Names.{sym, ap, ◌∙◌, float, no_number}
use Rattle.sheet.proofs.segments.float.Goals as goal

pub returns-in-Whole : goal.returns-in-Whole
returns-in-Whole c = no_number ∙ ap float (sym c.in-Whole.is)

pub returns-in-Single : goal.returns-in-Single
returns-in-Single c = ap float (sym c.in-Single.is)

pub returns-in-Missing : goal.returns-in-Missing
returns-in-Missing c = no_number ∙ ap float (sym c.in-Missing.is)
