use Rattle.stream.proofs.Words.{put_word}
use Rattle.stream.proofs.bitfields.replaced.Goals as goal

pub returns : goal.returns
returns c =
    let a = c.args in
    put_word a.word a.low a.width a.code c.ranges.word.fits c.requires.1 c.requires.2 c.requires.3
