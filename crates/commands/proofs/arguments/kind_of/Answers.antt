use Rattle.commands.proofs.Names.{lt-ltb, le-ltb}
use Rattle.commands.proofs.arguments.kind_of.Goals as goal

pub returns-then-n-gt255 : goal.returns-then-n-gt255
returns-then-n-gt255 c = rw (lt-ltb 255 c.args.n c.if-n-gt255.true)

pub returns : goal.returns
returns c = rw (le-ltb 255 c.args.n c.if-n-gt255.false)
