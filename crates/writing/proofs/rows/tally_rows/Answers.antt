use Rattle.writing.proofs.Names.{rows, check_row, differs, ◌≡◌, ap, ◌∙◌, arith, tally_to}
use Rattle.writing.proofs.CodeLaws.{count-le}
use Rattle.writing.proofs.rows.tally_rows.Goals as goal

pub with-tally-requires : goal.with-tally-requires
with-tally-requires c =
    let a = c.args in
    omega (arith, ap (λ t. t.rows) c.loop-r.invariant, count-le (differs a.present.now a.wanted.now) c.loop-r.r)

pub returns : goal.returns
returns c =
    let a = c.args in
    let e : c.loop-r.r ≡ rows a.sizes = omega (arith, c.requires.held) in
    c.loop-r.invariant ∙ ap (tally_to a.present.now a.wanted.now (check_row a.sizes)) e
