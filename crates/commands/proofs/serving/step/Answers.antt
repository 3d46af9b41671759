use Rattle.commands.proofs.Names.{eq-eqb, ne_eqb}
use Rattle.commands.proofs.serving.step.Goals as goal

pub returns-then-b-eq10 : goal.returns-then-b-eq10
returns-then-b-eq10 g c = rw (c.nothing.ensures, eq-eqb c.args.b 10 c.if-b-eq10.true)

pub returns : goal.returns
returns g c = rw (ne_eqb c.args.b 10 c.if-b-eq10.false) c.kept.ensures
