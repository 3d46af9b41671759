use Rattle.sheet.proofs.Names.{ap₂, ◌∙◌, row-sound, parse, field_of, stream_in, value_in}
use Rattle.sheet.proofs.HeldLaws.{held_whole, held-field}
use Rattle.sheet.proofs.held.unscaled_in.Goals as goal

pub unscaled_at-requires : goal.unscaled_at-requires
unscaled_at-requires c = (held_whole c.requires.held.0.opens, rw c.row_of.ensures (row-sound _ _ c.requires.held.1 c.requires.held.2), rw c.row_of.ensures c.requires.unscaled)

pub returns : goal.returns
returns c =
    let a = c.args in
    λ kind x h.
    c.unscaled_at.ensures
    ∙ ap₂ (λ r n. value_in (parse (stream_in a.sheet.sizes a.image.now) (field_of r) n)) c.row_of.ensures c.locate.ensures
    ∙ held-field h a.field c.requires.held.1 c.requires.held.2
