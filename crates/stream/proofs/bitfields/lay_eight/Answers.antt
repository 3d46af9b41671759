use Rattle.stream.proofs.Laying.{laid_word}
use Rattle.stream.proofs.bitfields.lay_eight.Goals as goal
use Rattle.stream.proofs.bitfields.lay_eight.Goals.{After-slice_known-1}

pub returns : goal.returns
returns c =
    let a = c.args in
    laid_word a.image.now a.from a.word _ _ _ _ _ _ _ _
    (λ i. ((goal.at.returns c).After-slice_known-1.type_inv.image i).fits)
    c.requires
    c.ranges.word.fits
    c.byte.ensures
    c.byte-2.ensures
    c.byte-3.ensures
    c.byte-4.ensures
    c.byte-5.ensures
    c.byte-6.ensures
    c.byte-7.ensures
    c.byte-8.ensures
