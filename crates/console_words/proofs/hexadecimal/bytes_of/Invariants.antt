-- The loop's invariant: the bytes of the digits passed are put, and the others are to come.
use Rattle.console_words.proofs.Names.{drop, bytes}
use Rattle.console_words.proofs.FilledLaws.{Filling}
use Rattle.console_words.proofs.hexadecimal.bytes_of.Given as goal

abbrev pub invariant-loop-at : goal.invariant-loop-at
invariant-loop-at l = Filling (bytes l.word) l.initial.out l.out l.at (drop l.at (bytes l.word))
