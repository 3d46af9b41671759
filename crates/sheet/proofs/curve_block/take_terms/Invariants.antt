use Rattle.sheet.proofs.Names.{◌≡◌, None, term_of, behind_term, stream_in}
use Rattle.sheet.proofs.CurveSteps.{passed_left}
use Rattle.sheet.proofs.curve_block.take_terms.Given as goal

abbrev pub invariant-loop-left : goal.invariant-loop-left
invariant-loop-left l = passed_left (stream_in l.sizes l.image) term_of behind_term (l.before) l.left l.cursor.at ≡ passed_left (stream_in l.sizes l.image) term_of behind_term None l.count l.initial.cursor.at

abbrev pub decreases-loop-left : goal.decreases-loop-left
decreases-loop-left l = l.left
