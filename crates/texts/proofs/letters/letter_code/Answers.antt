use Rattle.texts.proofs.Names.{◌≡◌, rules, tests, IsFirst-from_position, YieldsList-from_slice, letters}
use Rattle.texts.proofs.Alphabet.{first-letter}
use Rattle.texts.proofs.letters.letter_code.Goals as goal

pub returns : goal.returns
returns c =
    rw c.unwrap_or.ensures (
    first-letter c.args.character c.position.result
    (IsFirst-from_position _ _ c.position.result (λ x. x ≡ c.args.character) (λ x. x ≡ c.args.character → ⊥) c.position.ensures.ran (YieldsList-from_slice letters cc) (λ x q k. search (rules, tests)) (λ x q k. search (rules, tests)))
    )
