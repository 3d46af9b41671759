use Rattle.build.proofs.Names.{ap, ◌∙◌, set, block_head}
use Rattle.build.proofs.list.put_head.Goals as goal

pub returns : goal.returns
unfolding block_head
returns c =
    let a = c.args in
    c.put_pair-2.ensures ∙ ap (λ l. set (set l 2 (record { width = 1; code = a.domain })) 3 (record { width = a.width; code = a.count })) c.put_pair.ensures
