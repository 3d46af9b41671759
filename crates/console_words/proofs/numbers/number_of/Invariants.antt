use Rattle.console_words.proofs.Names.{◌≡◌, ◌^◌, ◌<◌, drop, number}
use Rattle.console_words.proofs.FigureLaws.{read_on}
use Rattle.console_words.proofs.numbers.number_of.Given as goal

abbrev pub invariant-loop-character : goal.invariant-loop-character
invariant-loop-character l = (l.n < 2 ^ 64) × (read_on l.n (drop l.character-index l.word) ≡ number l.word)
