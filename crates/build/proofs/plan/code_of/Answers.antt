use Rattle.build.proofs.Names.{row_of, row-sound, lent-real}
use Rattle.build.proofs.Coding.{encodes}
use Rattle.build.proofs.plan.code_of.Goals as goal

pub returns : goal.returns
returns c =
    let a = c.args in
    encodes (row_of a.layout a.field) a.field a.value c.encode.result (row-sound a.layout a.field c.requires.0 c.requires.1) (lent-real a.value c.well_formed.1.1.0) c.encode.ensures
