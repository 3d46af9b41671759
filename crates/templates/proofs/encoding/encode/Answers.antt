use Rattle.templates.proofs.RowLaws.{row-sound}
use Rattle.templates.proofs.encoding.encode.Goals as goal

pub encode_by-requires : goal.encode_by-requires
encode_by-requires c = rw c.row_of.ensures (row-sound _ _ c.requires.0 c.requires.1)

pub returns : goal.returns
returns c = rw c.row_of.ensures at c.encode_by.ensures
