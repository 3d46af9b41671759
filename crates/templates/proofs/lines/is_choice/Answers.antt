use Rattle.templates.proofs.RowLaws.{sets-at}
use Rattle.templates.proofs.lines.is_choice.Goals as goal

pub returns-in-Bridge : goal.returns-in-Bridge
returns-in-Bridge c = sets-at c.args.template c.args.field c.requires.1

pub returns-in-Resistance : goal.returns-in-Resistance
returns-in-Resistance c = sets-at c.args.template c.args.field c.requires.1
