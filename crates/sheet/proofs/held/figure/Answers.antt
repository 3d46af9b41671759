use Rattle.sheet.proofs.Names.{rules, ◌∙◌, sym, ap, w64, to_z-of_z, figure}
use Rattle.sheet.proofs.held.figure.Goals as goal

pub returns-in-Whole : goal.returns-in-Whole
returns-in-Whole c = to_z-of_z {w = w64} {z = c.in-Whole.z} (search rules) ∙ ap figure (sym c.in-Whole.is)

pub returns-in-Single : goal.returns-in-Single
returns-in-Single c = ap figure (sym c.in-Single.is)

pub returns-in-Missing : goal.returns-in-Missing
returns-in-Missing c = ap figure (sym c.in-Missing.is)
