use Rattle.sheet.proofs.Names.{ap₂, ◌∙◌, row-sound, parse, field_of, stream_in, value_in}
use Rattle.sheet.proofs.HeldLaws.{held_whole, held-field}
use Rattle.sheet.proofs.held.value_in.Goals as goal

pub value_at-requires : goal.value_at-requires
value_at-requires c =
    let p = c.requires in
    (held_whole p.0.opens, rw c.row_of.ensures (row-sound _ _ p.1 p.2))

pub returns : goal.returns
returns c =
    let a = c.args in
    λ kind x h.
    c.value_at.ensures
    ∙ ap₂ (λ r n. value_in (parse (stream_in a.sheet.sizes a.image.now) (field_of r) n)) c.row_of.ensures c.locate.ensures
    ∙ held-field h a.field c.requires.1 c.requires.2
