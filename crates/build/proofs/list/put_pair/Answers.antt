use Rattle.build.proofs.Names.{ap, ◌∙◌, ◌+◌, set}
use Rattle.build.proofs.Coding.{packed-set}
use Rattle.build.proofs.list.put_pair.Goals as goal

pub returns : goal.returns
returns c =
    let a = c.args in
    let p = c.packed.ensures in
    let q = c.packed-2.ensures in
    let first = c.packed.result in
    let second = c.packed-2.result in
    packed-set (set a.codes.now a.at first) (a.at + 1) second q.0 q.1 ∙ ap (λ l. set l (a.at + 1) a.second) (packed-set a.codes.now a.at first p.0 p.1)
