use Rattle.templates.proofs.Names.{◌≡◌, arith, basic, template32, lines_of}
use Rattle.templates.proofs.RowLaws.{past}
use Rattle.templates.proofs.lines.resistance_bits.Goals as goal

pub returns-in-1 : goal.returns-in-1
unfolding basic template32 lines_of
returns-in-1 c = rw c.in-1.is ((λ p. omega arith), omega arith)

pub returns-in-2 : goal.returns-in-2
unfolding basic template32 lines_of
returns-in-2 c = rw c.in-2.is ((λ p. omega arith), omega arith)

pub returns-in-3 : goal.returns-in-3
unfolding basic template32 lines_of
returns-in-3 c = rw c.in-3.is ((λ p. omega arith), omega arith)

pub returns-in-4 : goal.returns-in-4
unfolding basic template32 lines_of
returns-in-4 c = rw c.in-4.is ((λ p. omega arith), omega arith)

pub returns-in-5 : goal.returns-in-5
unfolding basic template32 lines_of
returns-in-5 c = rw c.in-5.is ((λ p. omega arith), omega arith)

pub returns-in-6 : goal.returns-in-6
unfolding basic template32 lines_of
returns-in-6 c = rw c.in-6.is ((λ p. omega arith), omega arith)

pub returns-in-7 : goal.returns-in-7
unfolding basic template32 lines_of
returns-in-7 c = rw c.in-7.is ((λ p. omega arith), omega arith)

pub returns-in-8 : goal.returns-in-8
unfolding basic template32 lines_of
returns-in-8 c = rw c.in-8.is ((λ p. omega arith), omega arith)

pub returns-in-9 : goal.returns-in-9
unfolding basic template32 lines_of
returns-in-9 c = rw c.in-9.is ((λ p. omega arith), omega arith)

pub returns-in-10 : goal.returns-in-10
unfolding basic template32 lines_of
returns-in-10 c = rw c.in-10.is ((λ p. omega arith), omega arith)

pub returns-in-11 : goal.returns-in-11
unfolding basic template32 lines_of
returns-in-11 c = rw c.in-11.is ((λ p. omega arith), omega arith)

pub returns-in-12 : goal.returns-in-12
unfolding basic template32 lines_of
returns-in-12 c = rw c.in-12.is ((λ p. omega arith), omega arith)

pub returns-in-13 : goal.returns-in-13
unfolding basic template32 lines_of
returns-in-13 c = rw c.in-13.is ((λ p. omega arith), omega arith)

pub returns-in-14 : goal.returns-in-14
unfolding basic template32 lines_of
returns-in-14 c = rw c.in-14.is ((λ p. omega arith), omega arith)

pub returns-in-15 : goal.returns-in-15
unfolding basic template32 lines_of
returns-in-15 c = rw c.in-15.is ((λ p. omega arith), omega arith)

pub returns-in-16 : goal.returns-in-16
unfolding basic template32 lines_of
returns-in-16 c = rw c.in-16.is ((λ p. omega arith), omega arith)

pub returns-in-17 : goal.returns-in-17
unfolding basic template32 lines_of
returns-in-17 c = rw c.in-17.is ((λ p. omega arith), omega arith)

pub returns-in-18 : goal.returns-in-18
unfolding basic template32 lines_of
returns-in-18 c = rw c.in-18.is ((λ p. omega arith), omega arith)

pub returns-in-19 : goal.returns-in-19
unfolding basic template32 lines_of
returns-in-19 c = rw c.in-19.is ((λ p. omega arith), omega arith)

pub returns-in_default : goal.returns-in_default
unfolding basic template32 lines_of
returns-in_default c = let last : c.args.field ≡ 20 = omega (arith, past 1 19 c.requires.0 c.in_default.in_default-own.rest) in rw last ((λ p. omega arith), omega arith)
