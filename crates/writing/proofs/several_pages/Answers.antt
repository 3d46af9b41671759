use Rattle.writing.proofs.Names.{◌≡◌, sym, ap, ◌∙◌, ℕ, ◌/◌, arith, None, Some, to_write, rows, differs, unsealed, last_for, several_pages}
use Rattle.writing.proofs.SeveralLaws.{several-room, several-there}
use Rattle.writing.proofs.RowLaws.{equal-bytes, unequal-bytes}
use Rattle.writing.proofs.PageLaws.{some_differ}
use Rattle.writing.proofs.CodeLaws.{none-for, some-for, several-last, several-invalidate, several-on}
use Rattle.writing.proofs.several_pages.Goals as goal

pub returns-then-eq : goal.returns-then-eq
returns-then-eq c =
    let a = c.args in
    let e = equal-bytes a.present.now a.wanted.now c.eq.result c.eq.ensures c.if-eq.true in
    ap to_write (sym (ap (λ p. several_pages a.sizes p a.wanted.now) e ∙ several-there a.sizes a.wanted.now))

pub returns-in_default : goal.returns-in_default
unfolding unsealed
returns-in_default c =
    let z = c.args.sizes in
    let p = c.args.present.now in
    let w = c.args.wanted.now in
    let some = some_differ z p w c.requires.0 (unequal-bytes p w c.eq.result c.eq.ensures c.if-eq.false) in
    let last : last_for (differs p (unsealed z w)) (rows z) ≡ None =
    sym (c.last_raised.ensures ∙ ap (λ (n : ℕ). last_for (differs p (unsealed z w)) (n / 8)) c.requires.0.held) ∙ c.in_default.is in
    ap Some c.row_of.ensures ∙ ap to_write (several-last z p w some (none-for (differs p (unsealed z w)) (rows z) last))

pub returns-then-invalidate_first : goal.returns-then-invalidate_first
unfolding unsealed
returns-then-invalidate_first c =
    let z = c.args.sizes in
    let p = c.args.present.now in
    let w = c.args.wanted.now in
    let some = some_differ z p w c.requires.0 (unequal-bytes p w c.eq.result c.eq.ensures c.if-eq.false) in
    let last : last_for (differs p (unsealed z w)) (rows z) ≡ Some c.in-Some.last =
    sym (c.last_raised.ensures ∙ ap (λ (n : ℕ). last_for (differs p (unsealed z w)) (n / 8)) c.requires.0.held) ∙ c.in-Some.is in
    let (more, is) = some-for (differs p (unsealed z w)) (rows z) _ last in
    ap Some c.raised_row.ensures ∙ ap to_write (several-invalidate z p w some more c.in-Some.last is (sym c.if-invalidate_first.true ∙ c.invalidate_first.ensures))

pub raised_row-requires-2 : goal.raised_row-requires-2
unfolding unsealed
raised_row-requires-2 c =
    let z = c.args.sizes in
    let p = c.args.present.now in
    let w = c.args.wanted.now in
    let last : last_for (differs p (unsealed z w)) (rows z) ≡ Some c.in-Some.last =
    sym (c.last_raised.ensures ∙ ap (λ (n : ℕ). last_for (differs p (unsealed z w)) (n / 8)) c.requires.0.held) ∙ c.in-Some.is in
    let (more, is) = some-for (differs p (unsealed z w)) (rows z) _ last in
    omega (arith, several-room z p w c.requires.0 c.requires.1 more, is, c.requires.0.held, c.requires.0.asked)

pub returns : goal.returns
unfolding unsealed
returns c =
    let z = c.args.sizes in
    let p = c.args.present.now in
    let w = c.args.wanted.now in
    let some = some_differ z p w c.requires.0 (unequal-bytes p w c.eq.result c.eq.ensures c.if-eq.false) in
    let last : last_for (differs p (unsealed z w)) (rows z) ≡ Some c.in-Some.last =
    sym (c.last_raised.ensures ∙ ap (λ (n : ℕ). last_for (differs p (unsealed z w)) (n / 8)) c.requires.0.held) ∙ c.in-Some.is in
    let (more, is) = some-for (differs p (unsealed z w)) (rows z) _ last in
    ap Some c.raised_row-2.ensures ∙ ap to_write (several-on z p w some more c.in-Some.last is (sym c.if-invalidate_first.false ∙ c.invalidate_first.ensures))
