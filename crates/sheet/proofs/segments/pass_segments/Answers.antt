use Rattle.sheet.proofs.Names.{◌≡◌, refl, sym, ap, ◌∙◌, ℕ, ◌-◌, arith, stream_in, behind_segments}
use Rattle.sheet.proofs.CurvePlaces.{passed-one}
use Rattle.sheet.proofs.segments.pass_segments.Goals as goal

pub loop-left-init : goal.loop-left-init
loop-left-init c = (omega arith, refl)

pub terms_at-requires : goal.terms_at-requires
terms_at-requires c = (c.requires.0, omega (arith, c.loop-left.invariant.0, c.requires.1, c.requires.2))

pub segment_end-cursor-requires : goal.segment_end-cursor-requires
segment_end-cursor-requires c = (omega (arith, c.loop-left.invariant.0, c.requires.1, c.requires.2), omega (arith, c.terms_at.ensures.1))

pub loop-left-preserved : goal.loop-left-preserved
loop-left-preserved c =
    let a = c.args in (
      omega (arith, c.loop-left.invariant.0, c.loop-left-test.true, c.segment_end-cursor.ensures, c.terms_at.ensures.1),
      ap (λ (k : ℕ). behind_segments (stream_in a.sizes a.image.now) k (c.loop-left.left - 1)) c.segment_end-cursor.ensures
          ∙ sym (passed-one (stream_in a.sizes a.image.now) c.loop-left.cursor.at c.loop-left.left c.terms_at.result c.terms_at.ensures.0 c.loop-left-test.true) ∙ c.loop-left.invariant.1,
    )

pub returns : goal.returns
returns c =
    let a = c.args in
    let none : c.loop-left.left ≡ 0 = omega (arith, c.loop-left-test.false) in
    (ap (behind_segments (stream_in a.sizes a.image.now) c.loop-left.cursor.at) (sym none) ∙ c.loop-left.invariant.1, omega (arith, c.loop-left.invariant.0, c.requires.1, c.requires.2))
