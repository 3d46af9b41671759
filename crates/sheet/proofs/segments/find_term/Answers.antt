use Rattle.sheet.proofs.Names.{◌≡◌, refl, sym, ap, ◌∙◌, ℕ, ◌-◌, arith, stream_in, term_place}
use Rattle.sheet.proofs.CurvePlaces.{term-in-it, term-behind-it}
use Rattle.sheet.proofs.segments.find_term.Goals as goal

pub loop-left-init : goal.loop-left-init
loop-left-init c = (omega arith, refl)

pub terms_at-own-requires : goal.terms_at-own-requires
terms_at-own-requires c = (c.requires.0, omega (arith, c.loop-left.invariant.0, c.requires.1, c.requires.2))

pub segment_end-requires : goal.segment_end-requires
segment_end-requires c = (omega (arith, c.loop-left.invariant.0, c.requires.1, c.requires.2), omega (arith, c.terms_at-own.ensures.1, c.if-ahead-own.true))

pub returns-then-ahead-own : goal.returns-then-ahead-own
returns-then-ahead-own c =
    let a = c.args in (
      c.segment_end.ensures
          ∙ sym (term-in-it (stream_in a.sizes a.image.now) c.loop-left.cursor.at c.loop-left.left c.terms_at-own.result c.loop-left.ahead c.terms_at-own.ensures.0 c.loop-left-test.true c.if-ahead-own.true) ∙ c.loop-left.invariant.1,
      omega (arith, c.loop-left.invariant.0, c.segment_end.ensures, c.terms_at-own.ensures.1, c.if-ahead-own.true, c.requires.1, c.requires.2),
    )

pub segment_end-cursor-requires : goal.segment_end-cursor-requires
segment_end-cursor-requires c = (omega (arith, c.loop-left.invariant.0, c.requires.1, c.requires.2), omega (arith, c.terms_at-own.ensures.1))

pub loop-left-preserved : goal.loop-left-preserved
loop-left-preserved c =
    let a = c.args in (
      omega (arith, c.loop-left.invariant.0, c.loop-left-test.true, c.segment_end-cursor.ensures, c.terms_at-own.ensures.1),
      ap (λ (k : ℕ). term_place (stream_in a.sizes a.image.now) k (c.loop-left.left - 1) (c.loop-left.ahead - c.terms_at-own.result)) c.segment_end-cursor.ensures
          ∙ sym (term-behind-it (stream_in a.sizes a.image.now) c.loop-left.cursor.at c.loop-left.left c.terms_at-own.result c.loop-left.ahead c.terms_at-own.ensures.0 c.loop-left-test.true c.if-ahead-own.false) ∙ c.loop-left.invariant.1,
    )

pub returns : goal.returns
returns c =
    let a = c.args in
    let none : c.loop-left.left ≡ 0 = omega (arith, c.loop-left-test.false) in
    (ap (λ (k : ℕ). term_place (stream_in a.sizes a.image.now) c.loop-left.cursor.at k c.loop-left.ahead) (sym none) ∙ c.loop-left.invariant.1, omega (arith, c.loop-left.invariant.0, c.requires.1, c.requires.2))
