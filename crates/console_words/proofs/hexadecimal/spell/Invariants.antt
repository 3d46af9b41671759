-- The loop's invariant: the digits of the indices passed are put, and the others are to come.
use Rattle.console_words.proofs.Names.{map, Option, Some, ℕ, drop, spelt}
use Rattle.console_words.proofs.FilledLaws.{Filling}
use Rattle.console_words.proofs.hexadecimal.spell.Given as goal

abbrev pub invariant-loop-at : goal.invariant-loop-at
invariant-loop-at l = Filling (map {B = Option ℕ} Some (spelt l.bytes)) l.initial.out l.out l.at (map {B = Option ℕ} Some (drop l.at (spelt l.bytes)))
