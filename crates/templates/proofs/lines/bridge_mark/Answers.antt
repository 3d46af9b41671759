-- One computed test for each run of fields.
use Rattle.templates.proofs.Names.{arith, Id, Cal, Usr, Bridge, basic, template33, lines_of}
use Rattle.templates.proofs.MarkLaws.{mark-in}
use Rattle.templates.proofs.lines.bridge_mark.Goals as goal

pub returns-then-field-lt7 : goal.returns-then-field-lt7
unfolding basic template33 lines_of
returns-then-field-lt7 c = mark-in Bridge Id 1 5 tt c.args.field (omega arith) (omega arith)

pub returns-then-field-lt12 : goal.returns-then-field-lt12
unfolding basic template33 lines_of
returns-then-field-lt12 c = mark-in Bridge Cal 7 4 tt c.args.field (omega arith) (omega arith)

pub returns-then-field-lt18 : goal.returns-then-field-lt18
unfolding basic template33 lines_of
returns-then-field-lt18 c = mark-in Bridge Id 12 5 tt c.args.field (omega arith) (omega arith)

pub returns-then-field-lt21 : goal.returns-then-field-lt21
unfolding basic template33 lines_of
returns-then-field-lt21 c = mark-in Bridge Cal 18 2 tt c.args.field (omega arith) (omega arith)

pub returns : goal.returns
unfolding basic template33 lines_of
returns c = mark-in Bridge Usr 21 0 tt c.args.field (omega arith) (omega arith)
