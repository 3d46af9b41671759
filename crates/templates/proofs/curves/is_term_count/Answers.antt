use Rattle.templates.proofs.Names.{le-leb, lt-leb}
use Rattle.templates.proofs.curves.is_term_count.Goals as goal

pub returns-then-count-ge1 : goal.returns-then-count-ge1
returns-then-count-ge1 c = rw (le-leb 1 _ c.if-count-ge1.true)

pub returns : goal.returns
returns c = rw (lt-leb 1 _ c.if-count-ge1.false)
