use Rattle.codes.proofs.Names.{refl, lt-ltb, le-ltb}
use Rattle.codes.proofs.judging.in_table.Goals as goal

pub returns-then-code-least : goal.returns-then-code-least
returns-then-code-least c = rw (lt-ltb _ _ c.if-code-least.true) refl

pub returns-then-greatest-code : goal.returns-then-greatest-code
returns-then-greatest-code c = rw (le-ltb _ _ c.if-code-least.false, lt-ltb _ _ c.if-greatest-code.true) refl

pub returns : goal.returns
returns c = rw (le-ltb _ _ c.if-code-least.false, le-ltb _ _ c.if-greatest-code.false)
