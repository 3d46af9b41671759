use mir.Syntax.{w64}
use Rattle.sheet.proofs.Names.{ap, ap₂, ◌∙◌, ℕ, ◌/◌, ℤ, pos, nat_abs, Float, to_z-of_z, Row, exponent-sound, coefficient-sound, parse, field_of, stream_in, figure, float, value_in}
use Rattle.sheet.proofs.segments.term_at.Goals as goal

pub unscaled_at-tenths-requires : goal.unscaled_at-tenths-requires
unscaled_at-tenths-requires c = (c.requires.0, rw c.term_exponent.ensures exponent-sound, rw c.term_exponent.ensures tt)

pub unscaled_at-coefficient-requires : goal.unscaled_at-coefficient-requires
unscaled_at-coefficient-requires c = (c.requires.0, rw c.term_coefficient.ensures coefficient-sound, rw c.term_coefficient.ensures tt)

pub returns : goal.returns
returns c =
    let a = c.args in
    ap₂ (λ (z : ℤ) (x : Float). record { exponent = z; coefficient = x })
    (to_z-of_z {w = w64} (record { sfits = c.exponent_of.type_inv }) ∙ c.exponent_of.ensures
    ∙ ap (λ (z : ℤ). pos (nat_abs z / 10))
    (to_z-of_z {w = w64} (record { sfits = c.figure.type_inv }) ∙ c.figure.ensures ∙ ap figure c.unscaled_at-tenths.ensures
    ∙ ap (λ (r : Row). figure (value_in (parse (stream_in a.sizes a.image.now) (field_of r) a.cursor.at))) c.term_exponent.ensures))
    (c.float.ensures ∙ ap float c.unscaled_at-coefficient.ensures
    ∙ ap₂ (λ (r : Row) (n : ℕ). float (value_in (parse (stream_in a.sizes a.image.now) (field_of r) n))) c.term_coefficient.ensures
    (ap (λ p. p.next.at) c.over-exponent.ensures))
