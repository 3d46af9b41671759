use Rattle.writing.proofs.Names.{ap, ◌∙◌, ◌+◌, ◌%◌, get_or, set, row_at}
use Rattle.writing.proofs.CodeLaws.{raised-in, raised-out}
use Rattle.writing.proofs.rows.raised_row.Goals as goal

pub returns-then-at-r : goal.returns-then-at-r
returns-then-at-r c =
    let a = c.args in
    ap (λ x. record { offset = x.offset; bytes = set x.bytes (a.at % 8) ((get_or x.bytes (a.at % 8) 0 + a.d) % 256) }) c.row_of-raised.ensures
    ∙ ap (row_at a.r) (raised-in a.image.now a.at a.d a.r c.requires c.if-at-r.true)

pub returns-else-at-r : goal.returns-else-at-r
returns-else-at-r c =
    let a = c.args in
    c.row_of-raised.ensures ∙ ap (row_at a.r) (raised-out a.image.now a.at a.d a.r c.requires c.if-at-r.false)
