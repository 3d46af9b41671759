use Rattle.stream.proofs.Names.{arith}
use Rattle.stream.proofs.Mending.{rewritten, rewritten-once}
use Rattle.stream.proofs.rewriting.rewrite.Goals as goal
use Rattle.stream.proofs.rewriting.rewrite.Goals.{After-page_of-last}

pub returns-then-first-last : goal.returns-then-first-last
returns-then-first-last c =
    let a = c.args in
    rewritten a.sizes a.image.now a.at a.width a.code (λ i. omega (arith, (goal.at.returns-then-first-last c).After-page_of-last.type_inv.image i))
    c.requires.in_stream.0 c.requires.in_stream.1 c.requires.le_pages.0 c.requires.le_pages.1 c.page_of-first.ensures c.page_of-last.ensures
    c.put.ensures c.seal.ensures c.seal-then-first-last.ensures

pub returns-else-first-last : goal.returns-else-first-last
returns-else-first-last c =
    let a = c.args in
    rewritten-once a.sizes a.image.now a.at a.width a.code (λ i. omega (arith, (goal.at.returns-else-first-last c).After-page_of-last.type_inv.image i))
    c.requires.in_stream.0 c.requires.in_stream.1 c.requires.le_pages.0 c.requires.le_pages.1 c.page_of-first.ensures c.page_of-last.ensures
    c.put.ensures c.seal.ensures c.if-first-last.false
