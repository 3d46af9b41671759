use Rattle.index.proofs.Names.{◌≡◌, sym, ap, ◌∙◌, subst, ◌*◌, ◌≤◌, length, basic, last_field, layout_at, entry_bytes, laid, first_entries}
use Rattle.index.proofs.making.write_own.Goals as goal

pub write_fields-requires : goal.write_fields-requires
write_fields-requires c =
    let n = c.args.buffer.now in
    subst (λ t. (4 * last_field t ≤ length n) × (n ≡ laid n 0 (entry_bytes (first_entries (layout_at t c.args.layout.precision) (length basic)))))
    c.in-Bridge.is c.requires

pub write_fields-requires-in-Resistance : goal.write_fields-requires-in-Resistance
write_fields-requires-in-Resistance c =
    let n = c.args.buffer.now in
    subst (λ t. (4 * last_field t ≤ length n) × (n ≡ laid n 0 (entry_bytes (first_entries (layout_at t c.args.layout.precision) (length basic)))))
    c.in-Resistance.is c.requires

pub returns-in-Bridge : goal.returns-in-Bridge
returns-in-Bridge c =
    let a = c.args in
    c.write_fields.ensures
    ∙ ap (λ t. laid a.buffer.now 0 (entry_bytes (first_entries (layout_at t a.layout.precision) (last_field t)))) (sym c.in-Bridge.is)

pub returns-in-Resistance : goal.returns-in-Resistance
returns-in-Resistance c =
    let a = c.args in
    c.write_fields-in-Resistance.ensures
    ∙ ap (λ t. laid a.buffer.now 0 (entry_bytes (first_entries (layout_at t a.layout.precision) (last_field t)))) (sym c.in-Resistance.is)
