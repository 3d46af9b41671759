use Rattle.sheet.proofs.segments.curve_in.Goals as goal

pub returns : goal.returns
returns c = rw c.over-block.ensures
