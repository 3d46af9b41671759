use Rattle.refusal.proofs.Outcomes.{exits}
use Rattle.change.proofs.Names.{sym, same_of, written-refused, written-done, opens, held, not_opened}
use Rattle.change.proofs.Recoding.{change-unread}
use Rattle.change.proofs.PartLaws.{lent-real, code-fits, change-refused, change-coded}
use Rattle.change.proofs.changing.change.Goals as goal

pub put_code-requires : goal.put_code-requires
put_code-requires c =
    let a = c.args in
    let (lo, hi, fits) = code-fits _ _ _ _ (sym (same_of c.in_ok-code.was c.code_for.ensures)) (lent-real a.value c.well_formed.1.1.1.1.0) in
    record { field = (held a.kind a.image.now _ c.open.ensures c.in_ok-opened.was, lo, hi); fits = fits }

pub returns-in_err-opened : goal.returns-in_err-opened
returns-in_err-opened c =
    let a = c.args in
    written-refused a.image.now (exits _ c.from_residual.ensures) (change-unread a.kind a.image.now a.level a.field a.value _ (not_opened a.kind a.image.now _ c.open.ensures c.in_err-opened.was))

pub returns-in_err-code : goal.returns-in_err-code
returns-in_err-code c =
    let a = c.args in
    let (x, h) = opens a.kind a.image.now _ c.open.ensures c.in_ok-opened.was in
    written-refused a.image.now (exits _ c.from_residual-in_err-code.ensures) (change-refused h a.level a.field a.value (sym (same_of c.in_err-code.was c.code_for.ensures)))

pub returns : goal.returns
returns c =
    let a = c.args in
    let (x, h) = opens a.kind a.image.now _ c.open.ensures c.in_ok-opened.was in
    written-done a.image.now (change-coded h a.level a.field a.value (sym (same_of c.in_ok-code.was c.code_for.ensures))) (c.put_code.ensures a.kind x h)
