use Rattle.build.proofs.Names.{◌≡◌, ap, ◌∙◌, ◌+◌, ◌-◌, arith, lines_of, last_field, bits_before, last-most}
use Rattle.build.proofs.Coding.{bits_small}
use Rattle.build.proofs.plan.field_bits.Goals as goal

pub overflow_add-last_field : goal.overflow_add-last_field
overflow_add-last_field c = omega (arith, c.last_field.ensures, last-most c.args.layout.template)

pub returns : goal.returns
returns c =
    let l = c.args.layout in
    let last : c.last_field.result + 1 - 1 ≡ last_field l.template = omega (arith, c.last_field.ensures) in
    let all = c.bits_before.ensures ∙ ap (bits_before (lines_of l.template) l.precision) last in
    (omega (arith, all), omega (arith, all, bits_small l.template l.precision))

pub overflow_add-result : goal.overflow_add-result
overflow_add-result c = omega (arith, (returns c).1)
