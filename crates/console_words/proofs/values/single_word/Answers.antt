use Rattle.console_words.proofs.Names.{arith, refl, [], ◌∷◌, bytes}
use Rattle.console_words.proofs.ValueLaws.{single-not, single-other, single-is}
use Rattle.console_words.proofs.values.single_word.Goals as goal

pub returns-in_err-count : goal.returns-in_err-count
returns-in_err-count c = rw c.from_residual.ensures (single-not (bytes c.args.digits.now) (0 ∷ 0 ∷ 0 ∷ 0 ∷ []) _ refl _ c.bytes_of.ensures c.in_err-count.was)

pub returns-then-count-ne4 : goal.returns-then-count-ne4
returns-then-count-ne4 c = single-other (bytes c.args.digits.now) (0 ∷ 0 ∷ 0 ∷ 0 ∷ []) _ refl _ c.bytes_of.ensures _ c.in_ok-count.was c.if-count-ne4.true

pub returns : goal.returns
returns c = single-is (bytes c.args.digits.now) (0 ∷ 0 ∷ 0 ∷ 0 ∷ []) _ refl _ c.bytes_of.ensures _ c.in_ok-count.was _ _ c.if-count-ne4.false (omega (arith, c.from_be_bytes.ensures)) c.single_of.ensures
