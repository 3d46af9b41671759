use Rattle.sheet.proofs.Names.{ap, ◌∙◌, ℕ, arith, stream_in, segment_at, behind_segments}
use Rattle.sheet.proofs.HeldLaws.{held_whole, behind-few, segments-few, held-segment}
use Rattle.sheet.proofs.segments.segment_in.Goals as goal

pub curve_in-requires : goal.curve_in-requires
curve_in-requires c = omega (arith, behind-few c.requires.0.opens)

pub pass_segments-requires : goal.pass_segments-requires
pass_segments-requires c =
    let h = c.requires.0.opens in
    (held_whole h, omega (arith, behind-few h, c.curve_in.ensures), omega (arith, c.requires.1, segments-few h))

pub segment_at-requires : goal.segment_at-requires
segment_at-requires c = (held_whole c.requires.0.opens, c.pass_segments.ensures.1)

pub returns : goal.returns
returns c =
    let a = c.args in
    λ kind x h.
    c.segment_at.ensures
    ∙ ap (λ (n : ℕ). segment_at (stream_in a.sheet.sizes a.image.now) n) (c.pass_segments.ensures.0 ∙ ap (λ (n : ℕ). behind_segments (stream_in a.sheet.sizes a.image.now) n a.index) c.curve_in.ensures)
    ∙ held-segment h a.index c.requires.1
