use Rattle.listing.proofs.ShownLaws.{is-raised, is_whole, is-split, is-lowered, is-behind}
use Rattle.listing.proofs.singles.shape_of.Goals as goal

pub returns-then-whole-gt10 : goal.returns-then-whole-gt10
returns-then-whole-gt10 c = is-raised c.args.count c.args.up c.args.point c.if-point-top.true c.if-whole-gt10.true

pub returns-then-count-whole : goal.returns-then-count-whole
returns-then-count-whole c = is_whole c.args.count c.args.up c.args.point c.if-point-top.true c.if-whole-gt10.false c.if-count-whole.true

pub returns-then-point-top : goal.returns-then-point-top
returns-then-point-top c = is-split c.args.count c.args.up c.args.point c.if-point-top.true c.if-whole-gt10.false c.if-count-whole.false

pub returns-then-noughts-gt4 : goal.returns-then-noughts-gt4
returns-then-noughts-gt4 c = is-lowered c.args.count c.args.up c.args.point c.if-point-top.false c.if-noughts-gt4.true

pub returns : goal.returns
returns c = is-behind c.args.count c.args.up c.args.point c.if-point-top.false c.if-noughts-gt4.false
