use Rattle.sheet.proofs.Names.{◌≡◌, ap, ◌∙◌, arith, ◌+◌, bits, parse, stream_in, number_in}
use Rattle.sheet.proofs.Steps.{got, past, bits-lt}
use Rattle.sheet.proofs.segments.terms_at.Goals as goal
use Rattle.sheet.proofs.segments.terms_at.Goals.{After-over-start}

-- The count is after the start.
behind-start : (c : After-over-start) → let a = c.args in
    number_in (parse (stream_in a.sizes a.image.now) (bits 7) c.over-start.result.next.at) ≡ number_in (parse (stream_in a.sizes a.image.now) (bits 7) (a.cursor.at + 13))
behind-start c =
    let a = c.args in
    ap (λ p. number_in (parse (stream_in a.sizes a.image.now) (bits 7) p.next.at)) c.over-start.ensures

pub returns-in-Err : goal.returns-in-Err
returns-in-Err c =
    let a = c.args in
    (ap number_in (past a.sizes a.image.now _ 7 _ c.take.ensures c.in-Err.is) ∙ behind-start (goal.at.returns-in-Err c).After-over-start, omega arith)

pub returns-in-Ok : goal.returns-in-Ok
returns-in-Ok c =
    let a = c.args in
    let e = got a.sizes a.image.now _ 7 _ c.take.ensures c.in-Ok.is in
    (ap number_in e ∙ behind-start (goal.at.returns-in-Ok c).After-over-start, bits-lt (stream_in a.sizes a.image.now) _ 7 e)
