-- The loop's invariant: the figures of the parts passed are counted, and those of the rest are to come.
use Rattle.console_words.proofs.Names.{figures}
use Rattle.console_words.proofs.FilledLaws.{Counting}
use Rattle.console_words.proofs.ListLaws.{to_come}
use Rattle.console_words.proofs.numbers.count_figures.Given as goal

abbrev pub invariant-loop-count : goal.invariant-loop-count
invariant-loop-count l = Counting (figures l.word) l.room l.count (to_come l.rest)
