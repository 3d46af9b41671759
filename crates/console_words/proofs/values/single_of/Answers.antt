use Rattle.console_words.proofs.Names.{refl, binary32, nan_bits_above, le-ltb}
use Rattle.console_words.proofs.ValueLaws.{nan_pattern}
use Rattle.console_words.proofs.values.single_of.Goals as goal

pub returns-then-bits-gt2139095040 : goal.returns-then-bits-gt2139095040
returns-then-bits-gt2139095040 c = nan_pattern c.args.bits c.if-bits-gt2139095040.true

pub float_from_bits-result : goal.float_from_bits-result
float_from_bits-result c = rw (nan_bits_above binary32 c.args.bits) (rw (le-ltb _ _ c.if-bits-gt2139095040.false) tt)

pub returns : goal.returns
returns c = refl
