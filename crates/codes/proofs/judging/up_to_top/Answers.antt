use Rattle.codes.proofs.Names.{refl, lt-ltb, le-ltb}
use Rattle.codes.proofs.judging.up_to_top.Goals as goal

pub returns-then-top_code-code : goal.returns-then-top_code-code
returns-then-top_code-code c = rw (lt-ltb _ _ (rw c.top_code.ensures at c.if-top_code-code.true)) refl

pub returns : goal.returns
returns c = rw (le-ltb _ _ (rw c.top_code.ensures at c.if-top_code-code.false))
