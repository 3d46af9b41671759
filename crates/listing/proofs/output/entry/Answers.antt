use Rattle.listing.proofs.Names.{◌∙◌}
use Rattle.listing.proofs.output.entry.Goals as goal

pub returns : goal.returns
returns c = c.piece_at-2.ensures ∙ rw c.piece_at.ensures
