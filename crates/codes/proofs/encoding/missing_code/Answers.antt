use Rattle.codes.proofs.Names.{refl, encode}
use Rattle.codes.proofs.encoding.missing_code.Goals as goal

pub returns-then-row : goal.returns-then-row
unfolding encode
returns-then-row c = rw (c.if-row.true, c.all_ones.ensures)

pub returns : goal.returns
unfolding encode
returns c = rw c.if-row.false refl
