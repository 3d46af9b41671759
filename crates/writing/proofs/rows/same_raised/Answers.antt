use Rattle.writing.proofs.Names.{ap, ◌∙◌, pointwise, nat_eq, row, arith, raised}
use Rattle.writing.proofs.RowLaws.{row-same}
use Rattle.writing.proofs.PageLaws.{raised-length}
use Rattle.writing.proofs.rows.same_raised.Goals as goal

pub returns : goal.returns
returns c =
    let a = c.args in
    row-same a.present.now (raised a.wanted.now a.at 1) a.r c.requires.0 (omega (arith, c.requires.1, raised-length a.wanted.now a.at 1)) c.eq.result
    (c.eq.ensures ∙ ap (λ x. pointwise nat_eq x.bytes c.raised_row.result.bytes) c.row_of.ensures ∙ ap (λ x. pointwise nat_eq (row a.r a.present.now) x.bytes) c.raised_row.ensures)
