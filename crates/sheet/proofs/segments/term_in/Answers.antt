use Rattle.sheet.proofs.Names.{ap, ◌∙◌, ℕ, arith, stream_in, term_at, term_place}
use Rattle.sheet.proofs.HeldLaws.{held_whole, behind-few, segments-few, held-term}
use Rattle.sheet.proofs.segments.term_in.Goals as goal

pub curve_in-requires : goal.curve_in-requires
curve_in-requires c = omega (arith, behind-few c.requires.0.opens)

pub find_term-requires : goal.find_term-requires
find_term-requires c =
    let h = c.requires.0.opens in
    (held_whole h, omega (arith, behind-few h, c.curve_in.ensures), omega (arith, segments-few h))

pub term_at-requires : goal.term_at-requires
term_at-requires c = (held_whole c.requires.0.opens, c.find_term.ensures.1)

pub returns : goal.returns
returns c =
    let a = c.args in
    λ kind x h.
    c.term_at.ensures
    ∙ ap (λ (n : ℕ). term_at (stream_in a.sheet.sizes a.image.now) n) (c.find_term.ensures.0 ∙ ap (λ (n : ℕ). term_place (stream_in a.sheet.sizes a.image.now) n a.sheet.summary.segments a.index) c.curve_in.ensures)
    ∙ held-term h a.index c.requires.1
