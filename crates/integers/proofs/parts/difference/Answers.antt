use Rattle.integers.proofs.Bridge.{made-pos, made-neg}
use Rattle.integers.proofs.parts.difference.Goals as goal

pub returns-then-down-up : goal.returns-then-down-up
returns-then-down-up c = made-pos c.args.up c.args.down c.if-down-up.true c.requires

pub returns-else-down-up : goal.returns-else-down-up
returns-else-down-up c = made-neg c.args.up c.args.down c.if-down-up.false c.requires
