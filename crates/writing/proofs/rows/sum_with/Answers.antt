use Rattle.writing.proofs.Names.{ap, ◌∙◌, ℕ, ◌%◌}
use Rattle.writing.proofs.CodeLaws.{sum_row, sum-exchanged, part-row}
use Rattle.writing.proofs.rows.sum_with.Goals as goal

pub returns : goal.returns
returns c =
    let a = c.args in
    sum-exchanged _ _ _ _ _ _ _ c.requires.0 (c.sum.ensures ∙ ap (λ (x : ℕ). x % 256) (part-row a.present.now a.r))
    (c.sum-2.ensures ∙ ap (λ (x : ℕ). x % 256) (part-row a.wanted.now a.r)) (sum_row a.present.now a.wanted.now a.r c.requires.1 c.requires.2)
