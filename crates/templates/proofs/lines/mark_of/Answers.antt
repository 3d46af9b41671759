use Rattle.templates.proofs.Names.{basic, template33, template32, lines_of}
use Rattle.templates.proofs.lines.mark_of.Goals as goal

pub bridge_mark-requires : goal.bridge_mark-requires
unfolding basic template33 template32 lines_of
bridge_mark-requires c = (c.requires.0, rw c.in-Bridge.is at c.requires.1)

pub resistance_mark-requires : goal.resistance_mark-requires
unfolding basic template33 template32 lines_of
resistance_mark-requires c = (c.requires.0, rw c.in-Resistance.is at c.requires.1)

pub returns-in-Bridge : goal.returns-in-Bridge
unfolding basic template33 template32 lines_of
returns-in-Bridge c = rw c.in-Bridge.is c.bridge_mark.ensures

pub returns-in-Resistance : goal.returns-in-Resistance
unfolding basic template33 template32 lines_of
returns-in-Resistance c = rw c.in-Resistance.is c.resistance_mark.ensures
