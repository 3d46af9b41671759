use Rattle.index.proofs.Names.{rules, ◌≡◌, refl, ap, ◌∙◌, ℕ, ◌+◌, ◌<◌, arith, length, Bridge, basic, layout_at, place-few, basic-most, last-most, entry_bytes, laid}
use Rattle.index.proofs.Names.{first_entries}
use Rattle.index.proofs.Laying.{first_more}
use Rattle.index.proofs.EntryLaws.{none_before, field_next, basic-entry}
use Rattle.index.proofs.making.write_basic.Goals as goal

pub loop-i-init : goal.loop-i-init
loop-i-init c = (omega arith, refl, λ layout. (c.start-cursor.ensures ∙ none_before layout, refl))

pub overflow_add-i : goal.overflow_add-i
overflow_add-i c = omega (arith, c.basic_fields-last.ensures, basic-most Bridge, last-most Bridge)

pub basic_row-row-requires : goal.basic_row-row-requires
basic_row-row-requires c = omega (arith, c.basic_fields-last.ensures)

pub write_entry-cursor-requires : goal.write_entry-cursor-requires
write_entry-cursor-requires c =
    let layout = layout_at Bridge 0 in
    let i = c.loop-i.i in
    let h : i < length basic = omega (arith, c.basic_fields-last.ensures) in (
      omega arith,
      omega (
        arith,
        (c.loop-i.invariant.2 layout).0,
        field_next layout i (omega (arith, basic-most Bridge)) (c.basic_row-row.ensures layout),
        place-few layout (i + 1),
      ),
    )

pub loop-i-preserved : goal.loop-i-preserved
loop-i-preserved c =
    let row = c.basic_row-row in
    let a = c.args in
    let i = c.loop-i.i in
    let (step, next) = c.write_entry-cursor.ensures in
    let h : i < length basic = omega (arith, c.basic_fields-last.ensures) in (
      omega arith,
      search rules,
      λ layout. (
        next ∙ ap (λ (n : ℕ). n + row.result.width) (c.loop-i.invariant.2 layout).0 ∙ field_next layout i (omega (arith, basic-most layout.template)) (row.ensures layout),
        first_more layout a.buffer.now i (omega arith) (c.loop-i.invariant.2 layout).1 (basic-entry layout i h (row.ensures layout) (c.loop-i.invariant.2 layout).0)
            step,
      ),
    )

pub returns : goal.returns
returns c layout =
    let n : c.loop-i.i ≡ length basic = omega (arith, c.basic_fields-last.ensures) in
    (c.loop-i.invariant.2 layout).1 ∙ ap (λ (k : ℕ). laid c.args.buffer.now 0 (entry_bytes (first_entries layout k))) n
