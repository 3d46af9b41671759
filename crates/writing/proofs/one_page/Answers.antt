use Rattle.writing.proofs.Names.{◌≡◌, sym, ap, ◌∙◌, ℕ, ◌≤◌, arith, row, rows, check_row, written, differing, raised, write_row, to_write, Some, tally_to}
use Rattle.writing.proofs.RowLaws.{over-length}
use Rattle.writing.proofs.PageLaws.{alike-length}
use Rattle.writing.proofs.OnePageLaws.{one-room, r-room}
use Rattle.writing.proofs.CodeLaws.{all-covered, tally-rows, tally-last, tally-other, one-page-done, one-page-one, one-page-invalidate, one-page-on}
use Rattle.writing.proofs.one_page.Goals as goal

pub returns-then-tally-eq0 : goal.returns-then-tally-eq0
returns-then-tally-eq0 c =
    let z = c.args.sizes in
    let p = c.args.present.now in
    let w = c.args.wanted.now in
    let t = c.tally_rows-tally.result in
    let e : t ≡ tally_to p w (check_row z) (rows z) = c.tally_rows-tally.ensures in
    ap to_write (one-page-done z p w t e c.if-tally-eq0.true)

pub row_of-requires : goal.row_of-requires
row_of-requires c =
    let z = c.args.sizes in
    let p = c.args.present.now in
    let w = c.args.wanted.now in
    let t = c.tally_rows-tally.result in
    let e : t ≡ tally_to p w (check_row z) (rows z) = c.tally_rows-tally.ensures in
    omega (arith, one-room z p w c.requires.0 (tally-rows z p w t e ∙ c.if-tally-eq1.true), tally-last z p w t e, c.requires.0.held, c.requires.0.asked)

pub returns-then-tally-eq1 : goal.returns-then-tally-eq1
returns-then-tally-eq1 c =
    let z = c.args.sizes in
    let p = c.args.present.now in
    let w = c.args.wanted.now in
    let t = c.tally_rows-tally.result in
    let e : t ≡ tally_to p w (check_row z) (rows z) = c.tally_rows-tally.ensures in
    ap Some c.row_of.ensures ∙ ap to_write (one-page-one z p w t e c.if-tally-eq0.false c.if-tally-eq1.true)

pub sum_with-ahead-requires : goal.sum_with-ahead-requires
sum_with-ahead-requires c =
    let z = c.args.sizes in
    let p = c.args.present.now in
    let w = c.args.wanted.now in
    let t = c.tally_rows-tally.result in
    let e : t ≡ tally_to p w (check_row z) (rows z) = c.tally_rows-tally.ensures in
    let two : 2 ≤ differing z p w = omega (arith, tally-rows z p w t e, c.if-tally-eq0.false, c.if-tally-eq1.false) in (
      c.first_sum-sum.ensures ∙ all-covered z p c.requires.0.held c.requires.0.paged c.requires.1,
      alike-length z p w c.requires.0,
      omega (arith, r-room z p w c.requires.0 two, tally-other z p w t e),
    )

pub returns-then-adds_up : goal.returns-then-adds_up
returns-then-adds_up c =
    let z = c.args.sizes in
    let p = c.args.present.now in
    let w = c.args.wanted.now in
    let t = c.tally_rows-tally.result in
    let e : t ≡ tally_to p w (check_row z) (rows z) = c.tally_rows-tally.ensures in
    let two : 2 ≤ differing z p w = omega (arith, tally-rows z p w t e, c.if-tally-eq0.false, c.if-tally-eq1.false) in
    let long = over-length t.other w p (alike-length z p w c.requires.0) (omega (arith, r-room z p w c.requires.0 two, tally-other z p w t e)) in
    ap Some c.raised_row.ensures
    ∙ ap (λ (d : ℕ). to_write (write_row (raised p z.register d) (check_row z))) c.raise_by.ensures
    ∙ ap to_write
    (one-page-invalidate z p w t e c.if-tally-eq0.false c.if-tally-eq1.false _ _ c.first_sum-sum.ensures
    (c.sum_with-ahead.ensures ∙ sym (all-covered z (written t.other (row t.other w) p) (long ∙ c.requires.0.held) c.requires.0.paged c.requires.1))
    (sym c.if-adds_up.true ∙ c.adds_up.ensures))

pub row_of-requires-2 : goal.row_of-requires-2
row_of-requires-2 c =
    let z = c.args.sizes in
    let p = c.args.present.now in
    let w = c.args.wanted.now in
    let t = c.tally_rows-tally.result in
    let e : t ≡ tally_to p w (check_row z) (rows z) = c.tally_rows-tally.ensures in
    let two : 2 ≤ differing z p w = omega (arith, tally-rows z p w t e, c.if-tally-eq0.false, c.if-tally-eq1.false) in
    omega (arith, r-room z p w c.requires.0 two, tally-other z p w t e, c.requires.0.held, c.requires.0.asked)

pub returns : goal.returns
returns c =
    let z = c.args.sizes in
    let p = c.args.present.now in
    let w = c.args.wanted.now in
    let t = c.tally_rows-tally.result in
    let e : t ≡ tally_to p w (check_row z) (rows z) = c.tally_rows-tally.ensures in
    let two : 2 ≤ differing z p w = omega (arith, tally-rows z p w t e, c.if-tally-eq0.false, c.if-tally-eq1.false) in
    let long = over-length t.other w p (alike-length z p w c.requires.0) (omega (arith, r-room z p w c.requires.0 two, tally-other z p w t e)) in
    ap Some c.row_of-2.ensures ∙ ap to_write
    (one-page-on z p w t e c.if-tally-eq0.false c.if-tally-eq1.false _ _ c.first_sum-sum.ensures
    (c.sum_with-ahead.ensures ∙ sym (all-covered z (written t.other (row t.other w) p) (long ∙ c.requires.0.held) c.requires.0.paged c.requires.1))
    (sym c.if-adds_up.false ∙ c.adds_up.ensures))
