use Rattle.index.proofs.Names.{ap, arith, and_mask, get_or}
use Rattle.index.proofs.Laying.{two-laid}
use Rattle.index.proofs.entries.put_two.Goals as goal

pub returns : goal.returns
returns c =
    let a = c.args in
    let low = ap (λ l. get_or l 0 0) c.to_le_bytes.ensures in
    let high = ap (λ l. get_or l 1 0) c.to_le_bytes.ensures in
    two-laid a.index.now a.at a.word (omega arith) (omega (arith, low, and_mask a.word 16)) (omega (arith, high, and_mask a.word 16))
