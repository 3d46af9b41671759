use Rattle.stream.proofs.Names.{arith}
use Rattle.stream.proofs.Runs.{window-end}
use Rattle.stream.proofs.bitfields.window.Goals as goal

pub returns : goal.returns
returns c =
    let a = c.args in
    window-end a.image.now (λ i. (c.type_inv.image i).fits) a.from _ _ (omega arith) (omega arith) c.eight-2.ensures
