use Rattle.codes.proofs.Names.{refl, arith, rules, binary32, to_bits-lt}
use Rattle.codes.proofs.FloatLaws.{nan_is, not-nan, finite-single, not-finite-single}
use Rattle.codes.proofs.encoding.single_bits.Goals as goal

pub returns-then-x : goal.returns-then-x
returns-then-x c = rw (nan_is c.args.x c.if-x.true) refl

pub float_to_bits-code : goal.float_to_bits-code
float_to_bits-code c = not-nan c.args.x c.if-x.false

pub overflow_cast-result : goal.overflow_cast-result
overflow_cast-result c = record { fits = omega (arith, to_bits-lt binary32 c.args.x (search rules)) }

pub returns-then-code-lt2139095040 : goal.returns-then-code-lt2139095040
returns-then-code-lt2139095040 c = rw (finite-single c.args.x (search rules) c.if-code-lt2139095040.true)

pub returns : goal.returns
returns c = rw (not-finite-single c.args.x (search rules) c.if-code-lt2139095040.false) refl
