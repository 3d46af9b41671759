use Rattle.commands.proofs.ChoiceLaws.{named-of}
use Rattle.commands.proofs.choosing.command_of.Goals as goal

pub returns : goal.returns
returns c = named-of c.args.line.now c.of_words.ensures c.word.ensures c.word_count.ensures
