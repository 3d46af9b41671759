use Rattle.sheet.proofs.Names.{◌≡◌, ◌≤◌, segment_of, behind_segment, nothing_passed, stream_in, passed}
use Rattle.sheet.proofs.CurveSteps.{passed_left}
use Rattle.sheet.proofs.curve_block.take_segments.Given as goal

abbrev pub invariant-loop-left : goal.invariant-loop-left
invariant-loop-left l =
    (l.terms ≤ 30) ×
    (passed_left (stream_in l.sizes l.image) segment_of behind_segment (passed l.before l.terms) l.left l.cursor.at ≡ passed_left (stream_in l.sizes l.image) segment_of behind_segment nothing_passed l.count l.initial.cursor.at)

abbrev pub decreases-loop-left : goal.decreases-loop-left
decreases-loop-left l = l.left
