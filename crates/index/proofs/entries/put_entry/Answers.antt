use Rattle.index.proofs.Names.{ap, ◌∙◌, List, ℕ, ◌+◌, arith, bytes_of, laid}
use Rattle.index.proofs.Laying.{laid_more}
use Rattle.index.proofs.entries.put_entry.Goals as goal

pub returns : goal.returns
returns c =
    let a = c.args in
    c.put_two-2.ensures
    ∙ ap (λ (l : List ℕ). laid l (a.at + 2) (bytes_of 2 a.new.length)) c.put_two.ensures
    ∙ laid_more a.index.now a.at (bytes_of 2 a.new.offset) (omega arith) (bytes_of 2 a.new.length)
