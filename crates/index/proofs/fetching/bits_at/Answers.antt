use Rattle.index.proofs.FetchLaws.{bits-past, bits_fit, bits-decoded}
use Rattle.index.proofs.fetching.bits_at.Goals as goal

pub returns-in_default : goal.returns-in_default
returns-in_default c =
    let a = c.args in
    bits-past a.sizes a.image.now a.row a.entry _ c.take.ensures c.in_default.is

pub decode-requires : goal.decode-requires
decode-requires c =
    let a = c.args in
    let p = c.requires in
    (p.1, bits_fit a.sizes a.image.now a.row a.entry _ c.take.ensures c.in-Ok.is p.2)

pub returns : goal.returns
returns c =
    let a = c.args in
    bits-decoded a.sizes a.image.now a.row a.entry _ c.take.ensures c.in-Ok.is c.decode.ensures
