use Rattle.build.proofs.Names.{refl, [], arith, block_pieces}
use Rattle.build.proofs.Filling.{filling-none, joined-more, filled}
use Rattle.build.proofs.write.lay_block.Goals as goal

pub returns : goal.returns
returns c =
    let z = c.args.sizes in
    filled z (joined-more z (block_pieces c.args.number) [] refl (filling-none z c.requires.room) (omega arith, (c.requires.number_bound, tt)) c.append.ensures (omega arith))
