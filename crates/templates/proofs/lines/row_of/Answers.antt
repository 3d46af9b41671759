use Rattle.templates.proofs.Names.{arith, basic, template33, template32, lines_of}
use Rattle.templates.proofs.lines.row_of.Goals as goal

pub basic_row-requires : goal.basic_row-requires
unfolding basic template33 template32 lines_of
basic_row-requires c = omega arith

pub returns-then-field-basic_fields : goal.returns-then-field-basic_fields
unfolding basic template33 template32 lines_of
returns-then-field-basic_fields c = c.basic_row.ensures c.args.layout

pub bridge_row-requires : goal.bridge_row-requires
unfolding basic template33 template32 lines_of
bridge_row-requires c = omega (arith, rw c.in-Bridge.is at c.requires.1)

pub resistance_row-requires : goal.resistance_row-requires
unfolding basic template33 template32 lines_of
resistance_row-requires c = omega (arith, rw c.in-Resistance.is at c.requires.1)

pub returns-in-Bridge : goal.returns-in-Bridge
unfolding basic template33 template32 lines_of
returns-in-Bridge c = rw c.in-Bridge.is c.bridge_row.ensures

pub returns-in-Resistance : goal.returns-in-Resistance
unfolding basic template33 template32 lines_of
returns-in-Resistance c = rw c.in-Resistance.is c.resistance_row.ensures
