-- The loop's invariant: the figures of the parts passed are put, and those of the rest are to come.
use Rattle.console_words.proofs.Names.{length, drop, figures}
use Rattle.console_words.proofs.FilledLaws.{Filling}
use Rattle.console_words.proofs.numbers.figures_of.Given as goal

abbrev pub invariant-loop-at : goal.invariant-loop-at
invariant-loop-at l = Filling (figures l.word) l.initial.out l.out (length l.yielded) (drop (length l.yielded) (figures l.word))
