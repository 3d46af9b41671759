use Rattle.codes.proofs.Names.{rules, w64, to_z-of_z}
use Rattle.codes.proofs.encoding.direct_code.Goals as goal

pub returns-in-Whole : goal.returns-in-Whole
returns-in-Whole c = let figure = to_z-of_z {w = w64} {z = c.in-Whole.figure} (search rules) in rw c.in-Whole.is (rw figure at c.direct_whole.ensures)

pub returns-in-Single : goal.returns-in-Single
returns-in-Single c = rw c.in-Single.is c.direct_single.ensures

pub returns-in-Missing : goal.returns-in-Missing
returns-in-Missing c = rw c.in-Missing.is c.direct_missing.ensures
