use mir.Syntax.{w64}
use Rattle.sheet.proofs.Names.{ap, ap₂, ◌∙◌, ℕ, ℤ, to_z-of_z, Row, start-sound, parse, field_of, stream_in, figure, value_in}
use Rattle.sheet.proofs.segments.segment_at.Goals as goal

pub unscaled_at-start-requires : goal.unscaled_at-start-requires
unscaled_at-start-requires c = (c.requires.0, rw c.segment_start.ensures start-sound, rw c.segment_start.ensures tt)

pub returns : goal.returns
returns c =
    let a = c.args in
    ap₂ (λ (z : ℤ) (n : ℕ). record { start = z; terms = n })
    (to_z-of_z {w = w64} (record { sfits = c.figure.type_inv }) ∙ c.figure.ensures ∙ ap figure c.unscaled_at-start.ensures
    ∙ ap (λ (r : Row). figure (value_in (parse (stream_in a.sizes a.image.now) (field_of r) a.cursor.at))) c.segment_start.ensures)
    c.terms_at.ensures.0
