use Rattle.codes.proofs.DirectCodes.{tells}
use Rattle.codes.proofs.encoding.direct_missing.Goals as goal

pub returns : goal.returns
returns c = tells _ 0 _ _ _ c.requires tt c.missing_code.ensures c.code_or_none.ensures
