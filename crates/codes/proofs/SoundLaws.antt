-- What a sound row is under the rule that it has.
use Rattle.codes.proofs.Names.{◌≡◌, subst, ℕ, ◌^◌, ◌≤◌, ◌<◌, lt_of_le_of_lt, le-add_right, Rule, Plain, Row, Sound, SoundRule}
use Rattle.codes.proofs.CodeLaws.{below-2^32}

-- What soundness of a row says for its rule.
pub sound-rule : {row : Row} {rule : Rule} → Sound row → row.rule ≡ rule → SoundRule rule row
sound-rule {row} s e = subst (λ (r : Rule). SoundRule r row) e s.rules

pub plain-small : {row : Row} {least greatest : ℕ} → Sound row → row.rule ≡ Plain least greatest → (least ≤ greatest) × (greatest < 2 ^ 32)
plain-small {row} s e =
    let sound = sound-rule s e in
    (sound.0, below-2^32 s.most (lt_of_le_of_lt (le-add_right _ _) sound.1))
