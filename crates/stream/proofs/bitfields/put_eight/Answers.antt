use Rattle.stream.proofs.Laying.{eight-put}
use Rattle.stream.proofs.bitfields.put_eight.Goals as goal

pub returns : goal.returns
returns c =
    let a = c.args in
    eight-put a.image.now _ a.from a.bit a.width a.code _ _ c.requires.from_in_bounds.2 c.requires.from_in_bounds.3 c.requires.le_width.2
    c.eight-word.ensures c.replaced.ensures c.lay_eight.ensures
