use Rattle.index.proofs.Names.{rules, refl, sym, ap, ◌∙◌, add-one, arith, Ok, line_of}
use Rattle.index.proofs.FetchLaws.{length_found, length-next, length_none}
use Rattle.index.proofs.fetching.row_of_length.Goals as goal

pub loop-precision-init : goal.loop-precision-init
loop-precision-init c = (search rules, refl)

pub returns-then-row-entry : goal.returns-then-row-entry
returns-then-row-entry c =
    let a = c.args in
    let l = c.loop-precision in
    let row = c.row_of-row.ensures in
    ap Ok row
    ∙ length_found (line_of a.template a.field) a.entry l.precision c.loop-precision-test.true (sym (ap (λ r. r.width) row) ∙ c.if-row-entry.true)
    ∙ l.invariant.1

pub loop-precision-preserved : goal.loop-precision-preserved
loop-precision-preserved c =
    let a = c.args in
    let l = c.loop-precision in
    let row = c.row_of-row.ensures in (
      search rules,
      rw (add-one l.precision)
          (length-next (line_of a.template a.field) a.entry l.precision c.loop-precision-test.true (λ e. c.if-row-entry.false (ap (λ r. r.width) row ∙ e))
          ∙ l.invariant.1),
    )

pub returns : goal.returns
returns c =
    let a = c.args in
    let l = c.loop-precision in
    length_none (line_of a.template a.field) a.entry l.precision (omega arith) ∙ l.invariant.1
