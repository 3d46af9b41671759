use Rattle.codes.proofs.Names.{arith, rules, encode, Single}
use Rattle.codes.proofs.DirectCodes.{tells}
use Rattle.codes.proofs.encoding.direct_single.Goals as goal

pub returns-in-Plain : goal.returns-in-Plain
unfolding encode
returns-in-Plain c = λ h. absurd (omega (arith, h))

pub returns-in-Stepped : goal.returns-in-Stepped
unfolding encode
returns-in-Stepped c = λ h. absurd (omega (arith, h))

pub returns-in-Geometric : goal.returns-in-Geometric
unfolding encode
returns-in-Geometric c = λ h. absurd (omega (arith, h))

pub returns-in-Single : goal.returns-in-Single
unfolding encode
returns-in-Single c = tells c.args.row 0 (Single c.args.x) _ _ c.requires (search rules) (rw c.in-Single.is c.single_bits.ensures) c.code_or_none.ensures
