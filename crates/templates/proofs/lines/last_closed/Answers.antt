-- The fields after the twelfth or the eleventh can hold every code, by one computed test.
use Rattle.templates.proofs.Names.{arith, Bridge, Resistance, basic, template33, template32, lines_of}
use Rattle.templates.proofs.OpenLaws.{open_in}
use Rattle.templates.proofs.lines.last_closed.Goals as goal

pub returns-in-Bridge : goal.returns-in-Bridge
unfolding basic template33 template32 lines_of
returns-in-Bridge c = rw c.in-Bridge.is (omega arith, λ latest f lo hi. open_in Bridge 13 8 (λ latest. tt) latest f (omega arith) (omega arith))

pub returns-in-Resistance : goal.returns-in-Resistance
unfolding basic template33 template32 lines_of
returns-in-Resistance c = rw c.in-Resistance.is (omega arith, λ latest f lo hi. open_in Resistance 12 7 (λ latest. tt) latest f (omega arith) (omega arith))
