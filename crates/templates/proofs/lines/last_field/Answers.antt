use Rattle.templates.proofs.Names.{basic, template33, template32, lines_of}
use Rattle.templates.proofs.lines.last_field.Goals as goal

pub returns-in-Bridge : goal.returns-in-Bridge
unfolding basic template33 template32 lines_of
returns-in-Bridge c = rw c.in-Bridge.is

pub returns-in-Resistance : goal.returns-in-Resistance
unfolding basic template33 template32 lines_of
returns-in-Resistance c = rw c.in-Resistance.is
