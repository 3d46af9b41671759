use Rattle.sheet.proofs.Names.{ap, ◌∙◌, arith}
use Rattle.sheet.proofs.segments.segment_end.Goals as goal

pub returns : goal.returns
returns c = ap (λ p. p.next.at) c.over-passed.ensures ∙ omega arith
