use Rattle.templates.proofs.curves.obeys.Goals as goal

pub returns-in-SegmentCount : goal.returns-in-SegmentCount
returns-in-SegmentCount c = rw c.in-SegmentCount.is c.is_segment_count.ensures

pub returns-in-Start : goal.returns-in-Start
returns-in-Start c = rw c.in-Start.is c.start_follows.ensures

pub returns-in-TermCount : goal.returns-in-TermCount
returns-in-TermCount c = rw c.in-TermCount.is c.is_term_count.ensures

pub returns-in-Exponent : goal.returns-in-Exponent
returns-in-Exponent c = rw c.in-Exponent.is c.exponent_follows.ensures
