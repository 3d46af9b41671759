use Rattle.stream.proofs.Runs.{joined}
use Rattle.stream.proofs.bitfields.eight.Goals as goal
use Rattle.stream.proofs.bitfields.eight.Goals.{After-shared_slice_known-1}

pub returns : goal.returns
returns c =
    joined c.args.image.now (λ i. ((goal.at.returns c).After-shared_slice_known-1.type_inv.image i).fits) c.args.from _ _ _ _ _ _ _ _ c.requires
    c.from.ensures
    c.from-2.ensures
    c.from-3.ensures
    c.from-4.ensures
    c.from-5.ensures
    c.from-6.ensures
    c.from-7.ensures
    c.from-8.ensures
