use Rattle.refusal.proofs.Outcomes.{exits}
use Rattle.index.proofs.Names.{sym, ap, ◌∙◌, ℕ, ◌*◌, arith, Err, ShortIndex, same_of, stream_number, last_field, last-most, template_at}
use Rattle.index.proofs.FetchLaws.{length-sound, in-none, in-past, in-short, in-refused, in-bits}
use Rattle.index.proofs.fetching.fetch_in.Goals as goal
use Rattle.index.proofs.fetching.fetch_in.Goals.{then-field-lt1-via-then-field-lt1, then-field-lt1-via-else-field-lt1+then-last-field}

pub returns-then-field-lt1 : goal.returns-then-field-lt1
returns-then-field-lt1 c =
    let a = c.args in
    let last = c.last_field-last.ensures ∙ ap last_field c.template_at-template.ensures in
    elim c.then-field-lt1.branch [
      | then-field-lt1-via-then-field-lt1 w ↦ in-none a.sizes a.image.now a.index.now a.field w.if-field-lt1.true
      | then-field-lt1-via-else-field-lt1+then-last-field w ↦ in-past a.sizes a.image.now a.index.now a.field (omega (arith, w.if-field-lt1.false)) (omega (arith, last, w.if-last-field.true))
    ]

pub overflow_mul-last : goal.overflow_mul-last
overflow_mul-last c =
    let a = c.args in
    omega (arith, c.last_field-last.ensures ∙ ap last_field c.template_at-template.ensures, last-most (template_at (stream_number a.sizes a.image.now)))

pub overflow_mul-result : goal.overflow_mul-result
overflow_mul-result c =
    let a = c.args in
    omega (arith, c.last_field-last.ensures ∙ ap last_field c.template_at-template.ensures, last-most (template_at (stream_number a.sizes a.image.now)))

pub returns-then-index-last : goal.returns-then-index-last
returns-then-index-last c =
    let a = c.args in
    let last = c.last_field-last.ensures ∙ ap last_field c.template_at-template.ensures in
    ap (λ (n : ℕ). Err (ShortIndex (4 * n))) last
    ∙ in-short a.sizes a.image.now a.index.now a.field (omega arith) (omega arith) (omega arith)

pub bits_at-requires : goal.bits_at-requires
bits_at-requires c =
    let a = c.args in
    let last = c.last_field-last.ensures in
    let (sound, width) = length-sound _ a.field _ _ (omega arith) (omega arith) (sym (same_of c.in_ok-row.was c.row_of_length.ensures)) in
    (c.requires.0, sound, width)

pub returns-in_err-row : goal.returns-in_err-row
returns-in_err-row c =
    let a = c.args in
    let last = c.last_field-last.ensures ∙ ap last_field c.template_at-template.ensures in
    exits _ c.from_residual.ensures
    ∙ in-refused a.sizes a.image.now a.index.now a.field (omega arith) (omega arith) c.template_at-template.ensures c.entry_at-entry.ensures (omega arith)
    (same_of c.in_err-row.was c.row_of_length.ensures)

pub returns : goal.returns
returns c =
    let a = c.args in
    let last = c.last_field-last.ensures ∙ ap last_field c.template_at-template.ensures in
    in-bits a.sizes a.image.now a.index.now a.field (omega arith) (omega arith) c.template_at-template.ensures c.entry_at-entry.ensures (omega arith)
    (same_of c.in_ok-row.was c.row_of_length.ensures) c.bits_at.ensures
