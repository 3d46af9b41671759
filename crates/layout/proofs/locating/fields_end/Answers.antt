use Rattle.layout.proofs.Names.{◌≡◌, ap, ◌∙◌, ◌+◌, arith, ending, field_place, last-most}
use Rattle.layout.proofs.locating.fields_end.Goals as goal

pub overflow_add-last_field : goal.overflow_add-last_field
overflow_add-last_field c = omega (arith, c.last_field.ensures, last-most c.args.layout.template)

pub locate-requires : goal.locate-requires
locate-requires c = omega (arith, c.last_field.ensures)

pub returns : goal.returns
returns c =
    let layout = c.args.layout in
    let behind : c.last_field.result + 1 ≡ ending layout.template = omega (arith, c.last_field.ensures) in
    c.locate.ensures ∙ ap (field_place layout) behind
