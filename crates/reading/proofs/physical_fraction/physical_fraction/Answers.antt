use Rattle.reading.proofs.Names.{sym, ap, ◌∙◌, arith, length-map, to_z-of_z, segments_in, segment_in, float_fraction, segments-are, held_whole, holding}
use Rattle.reading.proofs.Terms.{by-curve, by_fraction}
use Rattle.reading.proofs.physical_fraction.physical_fraction.Goals as goal

pub returns-then-sheet-eq0 : goal.returns-then-sheet-eq0
returns-then-sheet-eq0 c =
    λ kind x h e.
    c.float_fraction.ensures ∙ ap float_fraction (to_z-of_z c.ranges.q ∙ e)
    ∙ by_fraction c.args.p _ x.calibration (holding h).formed.calibrated (sym (length-map (segments_in x.calibration) segment_in) ∙ sym (segments-are h) ∙ c.if-sheet-eq0.true)

pub powers_of-requires : goal.powers_of-requires
powers_of-requires c = (held_whole c.requires.0.opens, c.serving-run.ensures.0, c.serving-run.ensures.1)

pub returns : goal.returns
returns c =
    let p = to_z-of_z c.ranges.p in
    λ kind x h e.
    rw (c.powers_of.ensures.1, rw p at (c.serving-run.ensures.2 kind x h), p) at c.float_fraction-2.ensures
    ∙ by-curve c.args.p _ x.calibration (holding h).formed.calibrated (omega (arith, c.if-sheet-eq0.false, segments-are h, length-map (segments_in x.calibration) segment_in))
