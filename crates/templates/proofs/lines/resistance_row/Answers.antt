use Rattle.templates.proofs.Names.{◌≡◌, arith, basic, template32, lines_of}
use Rattle.templates.proofs.RowLaws.{past}
use Rattle.templates.proofs.lines.resistance_row.Goals as goal

pub returns-in-6 : goal.returns-in-6
unfolding basic template32 lines_of
returns-in-6 c = rw c.in-6.is c.always.ensures

pub returns-in-7 : goal.returns-in-7
unfolding basic template32 lines_of
returns-in-7 c = rw c.in-7.is c.optional.ensures

pub returns-in-8 : goal.returns-in-8
unfolding basic template32 lines_of
returns-in-8 c = rw c.in-8.is c.optional-in-8.ensures

pub returns-in-9 : goal.returns-in-9
unfolding basic template32 lines_of
returns-in-9 c = rw c.in-9.is c.any.ensures

pub returns-in-10 : goal.returns-in-10
unfolding basic template32 lines_of
returns-in-10 c = rw c.in-10.is c.resistance_end.ensures

pub returns-in-11 : goal.returns-in-11
unfolding basic template32 lines_of
returns-in-11 c = rw c.in-11.is c.resistance_end-in-11.ensures

pub returns-in-12 : goal.returns-in-12
unfolding basic template32 lines_of
returns-in-12 c = rw c.in-12.is c.any-in-12.ensures

pub returns-in-13 : goal.returns-in-13
unfolding basic template32 lines_of
returns-in-13 c = rw c.in-13.is c.scaled.ensures

pub returns-in-14 : goal.returns-in-14
unfolding basic template32 lines_of
returns-in-14 c = rw c.in-14.is c.scaled-in-14.ensures

pub returns-in-15 : goal.returns-in-15
unfolding basic template32 lines_of
returns-in-15 c = rw c.in-15.is c.scaled-in-15.ensures

pub returns-in-16 : goal.returns-in-16
unfolding basic template32 lines_of
returns-in-16 c = rw c.in-16.is c.optional-in-16.ensures

pub returns-in-17 : goal.returns-in-17
unfolding basic template32 lines_of
returns-in-17 c = rw c.in-17.is c.any-in-17.ensures

pub returns-in-18 : goal.returns-in-18
unfolding basic template32 lines_of
returns-in-18 c = rw c.in-18.is c.any-in-18.ensures

pub returns-in_default : goal.returns-in_default
unfolding basic template32 lines_of
returns-in_default c = let last : c.args.field ≡ 19 = omega (arith, past 6 13 c.requires.0 c.in_default.in_default-own.rest) in rw last c.any-in_default.ensures
