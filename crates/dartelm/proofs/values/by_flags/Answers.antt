use Rattle.dartelm.proofs.Names.{rules, ap, sym, to_z-of_z, w64, by_flags}
use Rattle.dartelm.proofs.values.by_flags.Goals as goal

pub returns-in-Whole : goal.returns-in-Whole
returns-in-Whole c = rw (to_z-of_z {w = w64} {z = c.in-Whole.whole} (search rules)) (sym (ap by_flags c.in-Whole.is))

pub returns-in-Single : goal.returns-in-Single
returns-in-Single c = sym (ap by_flags c.in-Single.is)

pub returns-in-Missing : goal.returns-in-Missing
returns-in-Missing c = sym (ap by_flags c.in-Missing.is)
