use Rattle.refusal.proofs.Outcomes.{exits}
use Rattle.index.proofs.Names.{refl, arith, written-refused, written-done, opens, not_opened, behind-is}
use Rattle.index.proofs.IndexLaws.{index-unread, opened-few, opened-made, opened-short}
use Rattle.index.proofs.making.make_index.Goals as goal

pub overflow_add-count : goal.overflow_add-count
overflow_add-count c =
    let a = c.args in
    let (x, h) = opens a.kind a.image.now _ c.open.ensures c.in_ok-opened.was in
    omega (arith, opened-few h c.last_field.ensures)

pub overflow_mul-count : goal.overflow_mul-count
overflow_mul-count c =
    let a = c.args in
    let (x, h) = opens a.kind a.image.now _ c.open.ensures c.in_ok-opened.was in
    omega (arith, opened-few h c.last_field.ensures)

pub overflow_mul-result : goal.overflow_mul-result
overflow_mul-result c =
    let a = c.args in
    let (x, h) = opens a.kind a.image.now _ c.open.ensures c.in_ok-opened.was in
    omega (arith, opened-few h c.last_field.ensures)

pub returns-then-buffer-count : goal.returns-then-buffer-count
returns-then-buffer-count c =
    let a = c.args in
    let (x, h) = opens a.kind a.image.now _ c.open.ensures c.in_ok-opened.was in
    written-refused a.buffer.now refl
    (opened-short h c.last_field.ensures a.buffer.now c.if-buffer-count.true)

pub write_entries-requires : goal.write_entries-requires
write_entries-requires c =
    let a = c.args in
    let (x, h) = opens a.kind a.image.now _ c.open.ensures c.in_ok-opened.was in
    let e = c.last_field.ensures in
    (behind-is h, omega arith, omega (arith, opened-few h e), omega (arith, e))

pub returns-in_err-opened : goal.returns-in_err-opened
returns-in_err-opened c =
    let a = c.args in
    written-refused a.buffer.now (exits _ c.from_residual.ensures)
    (index-unread a.kind a.image.now a.buffer.now _ (not_opened a.kind a.image.now _ c.open.ensures c.in_err-opened.was))

pub returns : goal.returns
returns c =
    let a = c.args in
    let (x, h) = opens a.kind a.image.now _ c.open.ensures c.in_ok-opened.was in
    written-done a.buffer.now
    (opened-made h c.last_field.ensures a.buffer.now (omega arith)) c.write_entries.ensures
