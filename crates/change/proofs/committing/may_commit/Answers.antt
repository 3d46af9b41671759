use Rattle.refusal.proofs.Outcomes.{exits}
use Rattle.change.proofs.Names.{sym, ap₂, ◌∙◌, subst, same_of, Sound, row-sound, may_follow}
use Rattle.change.proofs.PartLaws.{allowed-known}
use Rattle.change.proofs.CommitLaws.{commit-not-free, commit-free}
use Rattle.change.proofs.committing.may_commit.Goals as goal

pub row_of-requires : goal.row_of-requires
row_of-requires c =
    let a = c.args in
    allowed-known a.sheet.layout.template a.level a.field (same_of c.in_ok-may_change.was c.may_change.ensures)

pub code_in-requires : goal.code_in-requires
code_in-requires c =
    let k = allowed-known c.args.sheet.layout.template c.args.level c.args.field (same_of c.in_ok-may_change.was c.may_change.ensures) in
    (c.requires, k.0, k.1)

pub may_follow-requires : goal.may_follow-requires
may_follow-requires c =
    let a = c.args in
    let k = allowed-known a.sheet.layout.template a.level a.field (same_of c.in_ok-may_change.was c.may_change.ensures) in
    subst Sound (sym c.row_of.ensures) (row-sound a.sheet.layout a.field k.0 k.1)

pub returns-in_err-may_change : goal.returns-in_err-may_change
returns-in_err-may_change c =
    let a = c.args in
    λ kind x h. exits _ c.from_residual.ensures ∙ sym (commit-not-free h a.level a.field a.present a.new (sym (same_of c.in_err-may_change.was c.may_change.ensures)))

pub returns : goal.returns
returns c =
    let a = c.args in
    let e = same_of c.in_ok-may_change.was c.may_change.ensures in
    let k = allowed-known a.sheet.layout.template a.level a.field e in
    λ kind x h.
    c.may_follow.ensures
    ∙ ap₂ (λ r n. may_follow r n a.field a.present a.new) c.row_of.ensures (c.code_in.ensures kind x h)
    ∙ sym (commit-free h a.level a.field a.present a.new (sym e) k.0 k.1)
