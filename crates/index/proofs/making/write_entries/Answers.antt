-- What each call writes begins with what the calls before it wrote.
use Rattle.index.proofs.Names.{rules, ap, ◌∙◌, List, ℕ, arith, length, basic, last_field, basic-most, entry_bytes, laid, first_entries}
use Rattle.index.proofs.Laying.{first-over, first-begun}
use Rattle.index.proofs.making.write_entries.Goals as goal

pub write_basic-requires : goal.write_basic-requires
write_basic-requires c = omega (arith, basic-most c.args.layout.template)

pub write_own-requires : goal.write_own-requires
write_own-requires c =
    let layout = c.args.layout in
    (search rules, first-begun layout _ _ (length basic) (c.write_basic.ensures layout))

pub write_points-requires : goal.write_points-requires
write_points-requires c =
    let layout = c.args.layout in
    record { at_value = search rules; buffer_value = first-begun layout _ _ (last_field layout.template) c.write_own.ensures }

pub returns : goal.returns
returns c =
    let a = c.args in
    let layout = a.layout in
    let buffer = a.buffer.now in
    let last = last_field layout.template in
    let fields = c.write_own.ensures
    ∙ ap (λ (l : List ℕ). laid l 0 (entry_bytes (first_entries layout last))) (c.write_basic.ensures layout)
    ∙ first-over layout buffer (length basic) last (basic-most layout.template) in
    c.write_points.ensures
    ∙ ap (λ (l : List ℕ). laid l 0 (entry_bytes (first_entries layout a.count))) fields
    ∙ first-over layout buffer last a.count (omega arith)
