use Rattle.refusal.proofs.Outcomes.{exits}
use Rattle.change.proofs.Names.{sym, ap₂, ◌∙◌, subst, ◌^◌, ◌<◌, arith, same_of, bind-good, bind-refused, decode, Sound, row-sound}
use Rattle.change.proofs.proposing.proposed.Goals as goal

pub row_of-row-requires : goal.row_of-row-requires
row_of-row-requires c = (c.requires.0, c.requires.1)

pub locate-at-requires : goal.locate-at-requires
locate-at-requires c = (c.requires.0, omega (arith, c.requires.1))

pub decode-requires : goal.decode-requires
decode-requires c =
    let a = c.args in
    let e = sym c.row_of-row.ensures in
    (subst Sound e (row-sound a.layout a.field c.requires.0 c.requires.1), subst (λ r. a.new < 2 ^ r.width) e c.requires.2)

pub returns-in_err-value : goal.returns-in_err-value
returns-in_err-value c =
    let a = c.args in
    exits _ c.from_residual.ensures ∙ sym (bind-refused _ (sym (same_of c.in_err-value.was c.decode.ensures ∙ ap₂ (λ r n. decode r n a.new) c.row_of-row.ensures c.locate-at.ensures)))

pub returns : goal.returns
returns c =
    let a = c.args in
    sym (bind-good _ (sym (same_of c.in_ok-value.was c.decode.ensures ∙ ap₂ (λ r n. decode r n a.new) c.row_of-row.ensures c.locate-at.ensures)))
