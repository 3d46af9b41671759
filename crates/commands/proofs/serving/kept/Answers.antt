use Rattle.commands.proofs.GatherLaws.{kept_full, kept_more}
use Rattle.commands.proofs.serving.kept.Goals as goal

pub returns-then-length-line : goal.returns-then-length-line
returns-then-length-line c = kept_full c.args.line.now c.args.so_far.length c.args.so_far.long c.args.b c.if-length-line.true

pub returns : goal.returns
returns c = kept_more c.args.line.now c.args.so_far.length c.args.so_far.long c.args.b c.if-length-line.false
