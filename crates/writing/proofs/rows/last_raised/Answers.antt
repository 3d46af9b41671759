use Rattle.writing.proofs.Names.{sym, ap, ◌∙◌, not, ◌-◌, ◌/◌, arith, length, differs, raised}
use Rattle.writing.proofs.CodeLaws.{last-here, last_none, behind_more}
use Rattle.writing.proofs.rows.last_raised.Goals as goal

pub returns-then-not-same_raised : goal.returns-then-not-same_raised
returns-then-not-same_raised c =
    let a = c.args in
    last-here (differs a.present.now (raised a.wanted.now a.at 1)) (length a.present.now / 8) (c.loop-r.r - 1) (omega arith)
    (ap not (sym c.same_raised.ensures ∙ c.if-not-same_raised.true)) (λ k h m. c.loop-r.invariant k (omega arith) m)

pub loop-r-preserved : goal.loop-r-preserved
loop-r-preserved c =
    behind_more _ (c.loop-r.r - 1) _ (λ k h l. c.loop-r.invariant k (omega arith) l) (ap not (sym c.same_raised.ensures ∙ c.if-not-same_raised.false))

pub returns : goal.returns
returns c =
    let a = c.args in
    last_none (differs a.present.now (raised a.wanted.now a.at 1)) (length a.present.now / 8) (λ k h. c.loop-r.invariant k (omega arith) h)
