use Rattle.stream.proofs.Names.{arith}
use Rattle.stream.proofs.Taking.{take-inside, take_past}
use Rattle.stream.proofs.cursor.Cursor.take.Goals as goal

pub returns-then-bits-at : goal.returns-then-bits-at
returns-then-bits-at c =
    let a = c.args in
    rw (take_past a.sizes a.image.now a.self.at a.width (omega arith))

pub returns-then-bits-at-2 : goal.returns-then-bits-at-2
returns-then-bits-at-2 c =
    let a = c.args in
    rw (take_past a.sizes a.image.now a.self.at a.width (omega arith))

pub returns : goal.returns
returns c =
    let a = c.args in
    rw (c.read-read.ensures.0, c.read-read.ensures.1, take-inside a.sizes a.image.now a.self.at a.width (omega arith))
