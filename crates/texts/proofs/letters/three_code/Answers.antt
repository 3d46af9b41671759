-- The code's three digits in base 32 are the letters' codes.
use Rattle.texts.proofs.Alphabet.{only_three}
use Rattle.texts.proofs.letters.three_code.Goals as goal

pub returns : goal.returns
returns c = only_three _ _ _ _ c.letter_code-a.ensures.1 c.letter_code-b.ensures.1 c.letter_code-c.ensures.1
