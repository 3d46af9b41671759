use Rattle.memory.proofs.Sealing.{seal-code}
use Rattle.memory.proofs.pages.seal.Goals as goal

pub returns : goal.returns
returns c =
    let a = c.args in
    rw c.page_sum-sum.ensures (seal-code a.sizes a.image.now c.requires.0.long a.page c.requires.1)
