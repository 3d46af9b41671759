use Rattle.writing.proofs.Names.{ap, ◌∙◌, pointwise, nat_eq, row}
use Rattle.writing.proofs.RowLaws.{row-same}
use Rattle.writing.proofs.rows.same_row.Goals as goal

pub returns : goal.returns
returns c =
    let a = c.args in
    row-same a.present.now a.wanted.now a.r c.requires.0 c.requires.1 c.eq.result
    (c.eq.ensures ∙ ap (λ x. pointwise nat_eq x.bytes c.row_of-2.result.bytes) c.row_of.ensures ∙ ap (λ x. pointwise nat_eq (row a.r a.present.now) x.bytes) c.row_of-2.ensures)
