-- One computed test for each run of fields.
use Rattle.templates.proofs.Names.{arith, Id, Cal, Usr, Resistance, basic, template32, lines_of}
use Rattle.templates.proofs.MarkLaws.{mark-in}
use Rattle.templates.proofs.lines.resistance_mark.Goals as goal

pub returns-then-field-lt7 : goal.returns-then-field-lt7
unfolding basic template32 lines_of
returns-then-field-lt7 c = mark-in Resistance Id 1 5 tt c.args.field (omega arith) (omega arith)

pub returns-then-field-lt12 : goal.returns-then-field-lt12
unfolding basic template32 lines_of
returns-then-field-lt12 c = mark-in Resistance Cal 7 4 tt c.args.field (omega arith) (omega arith)

pub returns-then-field-lt14 : goal.returns-then-field-lt14
unfolding basic template32 lines_of
returns-then-field-lt14 c = mark-in Resistance Id 12 1 tt c.args.field (omega arith) (omega arith)

pub returns-then-field-lt15 : goal.returns-then-field-lt15
unfolding basic template32 lines_of
returns-then-field-lt15 c = mark-in Resistance Cal 14 0 tt c.args.field (omega arith) (omega arith)

pub returns-then-field-lt16 : goal.returns-then-field-lt16
unfolding basic template32 lines_of
returns-then-field-lt16 c = mark-in Resistance Id 15 0 tt c.args.field (omega arith) (omega arith)

pub returns-then-field-lt19 : goal.returns-then-field-lt19
unfolding basic template32 lines_of
returns-then-field-lt19 c = mark-in Resistance Cal 16 2 tt c.args.field (omega arith) (omega arith)

pub returns : goal.returns
unfolding basic template32 lines_of
returns c = mark-in Resistance Usr 19 0 tt c.args.field (omega arith) (omega arith)
