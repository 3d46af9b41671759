use Rattle.commands.proofs.Names.{rules}
use Rattle.commands.proofs.ChoiceLaws.{named-as, named-sheet, named_none}
use Rattle.commands.proofs.choosing.of_words.Goals as goal

pub returns-in-1 : goal.returns-in-1
returns-in-1 c = named-as c.args.name.now c.of_one.ensures c.in-1.is

pub returns-in-2 : goal.returns-in-2
returns-in-2 c = named-as c.args.name.now c.of_two.ensures c.in-2.is

pub returns-in-3 : goal.returns-in-3
returns-in-3 c = named-as c.args.name.now c.of_three.ensures c.in-3.is

pub returns-in-4 : goal.returns-in-4
returns-in-4 c = named-as c.args.name.now c.of_four.ensures c.in-4.is

pub returns-in-5 : goal.returns-in-5
returns-in-5 c = named-as c.args.name.now c.of_five.ensures c.in-5.is

pub returns-in-6 : goal.returns-in-6
returns-in-6 c = named-as c.args.name.now c.of_six.ensures c.in-6.is

pub returns-in-7 : goal.returns-in-7
returns-in-7 c = named-as c.args.name.now c.of_seven.ensures c.in-7.is

pub returns-in-28 : goal.returns-in-28
returns-in-28 c = named-sheet c.args.name.now c.of_sheet.ensures c.in-28.is

pub returns-in_default : goal.returns-in_default
returns-in_default c = named_none c.args.name.now c.args.words (λ e. search rules) (λ e. search rules) (λ e. search rules) (λ e. search rules) (λ e. search rules) (λ e. search rules) (λ e. search rules) (λ e. search rules)
