use Rattle.texts.proofs.Alphabet.{only_one}
use Rattle.texts.proofs.letters.one_code.Goals as goal

pub returns : goal.returns
returns c = only_one _ _ c.letter_code.ensures.1
