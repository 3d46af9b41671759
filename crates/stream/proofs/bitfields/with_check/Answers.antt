use Rattle.stream.proofs.Words.{put-between}
use Rattle.stream.proofs.bitfields.with_check.Goals as goal

pub returns : goal.returns
returns c =
    let a = c.args in
    put-between a.word a.bits a.check c.requires.0 c.requires.1 c.requires.2
