use Rattle.codes.proofs.Names.{◌∙◌, binary32, of_bits, Ok, Single}
use Rattle.codes.proofs.FloatLaws.{pattern-no-nan}
use Rattle.codes.proofs.DecodeLaws.{turned, stood, single-means, single-stands}
use Rattle.codes.proofs.decoding.single.Goals as goal

pub returns-in-Err : goal.returns-in-Err
returns-in-Err c = let a = c.args in turned (Ok (Single (of_bits binary32 a.code))) c.finite_bits.ensures c.in-Err.is ∙ single-means a.at a.code

pub float_from_bits-result : goal.float_from_bits-result
float_from_bits-result c = let a = c.args in pattern-no-nan _ (single-stands a.at a.code c.finite_bits.ensures c.in_default.is)

pub returns : goal.returns
returns c = let a = c.args in stood (Ok (Single (of_bits binary32 a.code))) c.finite_bits.ensures c.in_default.is ∙ single-means a.at a.code
