use Rattle.templates.proofs.Names.{◌≡◌, arith, basic, lines_of}
use Rattle.templates.proofs.RowLaws.{past}
use Rattle.templates.proofs.lines.basic_row.Goals as goal

pub returns-in-1 : goal.returns-in-1
unfolding basic lines_of
returns-in-1 c layout = rw c.in-1.is c.always.ensures

pub returns-in-2 : goal.returns-in-2
unfolding basic lines_of
returns-in-2 c layout = rw c.in-2.is c.any.ensures

pub returns-in-3 : goal.returns-in-3
unfolding basic lines_of
returns-in-3 c layout = rw c.in-3.is c.always-in-3.ensures

pub returns-in-4 : goal.returns-in-4
unfolding basic lines_of
returns-in-4 c layout = rw c.in-4.is c.any-in-4.ensures

pub returns-in_default : goal.returns-in_default
unfolding basic lines_of
returns-in_default c layout = let last : c.args.field ≡ 5 = omega (arith, past 1 4 c.requires.0 c.in_default.in_default-own.rest) in rw last c.any-in_default.ensures
