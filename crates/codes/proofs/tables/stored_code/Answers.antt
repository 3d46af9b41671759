use Rattle.codes.proofs.Names.{true≢false}
use Rattle.codes.proofs.tables.stored_code.Goals as goal

pub found-requires : goal.found-requires
found-requires c = ((λ e. absurd (true≢false e)), λ e. c.requires)

pub returns : goal.returns
returns c = c.found.ensures.0
