-- The fields after the third can hold every code, by one computed test.
use Rattle.templates.proofs.Names.{arith, basic, lines_of}
use Rattle.templates.proofs.OpenLaws.{open_in}
use Rattle.templates.proofs.lines.basic_closed.Goals as goal

pub returns : goal.returns
unfolding basic lines_of
returns c = (omega arith, λ t latest f lo hi. open_in t 4 1 (λ latest. tt) latest f (omega arith) (omega arith))
