use Rattle.refusal.proofs.Outcomes.{exits}
use Rattle.change.proofs.Names.{sym, same_of, written-refused, written-done, opens, held, not_opened}
use Rattle.change.proofs.CommitLaws.{commit-unread, commit-refused, commit-known, commit-passed, commit-fits}
use Rattle.change.proofs.committing.commit.Goals as goal

pub may_commit-requires : goal.may_commit-requires
may_commit-requires c =
    let a = c.args in
    held a.kind a.image.now _ c.open.ensures c.in_ok-opened.was

pub put_code-requires : goal.put_code-requires
put_code-requires c =
    let a = c.args in
    let (x, h) = opens a.kind a.image.now _ c.open.ensures c.in_ok-opened.was in
    let e = sym (same_of c.in_ok-may_commit.was (c.may_commit.ensures a.kind x h)) in
    let (lo, hi) = commit-known h a.level a.field a.present a.new e in
    record { field = (held a.kind a.image.now _ c.open.ensures c.in_ok-opened.was, lo, hi); fits = commit-fits h a.level a.field a.present a.new e }

pub returns-in_err-opened : goal.returns-in_err-opened
returns-in_err-opened c =
    let a = c.args in
    written-refused a.image.now (exits _ c.from_residual.ensures) (commit-unread a.kind a.image.now a.level a.field a.present a.new _ (not_opened a.kind a.image.now _ c.open.ensures c.in_err-opened.was))

pub returns-in_err-may_commit : goal.returns-in_err-may_commit
returns-in_err-may_commit c =
    let a = c.args in
    let (x, h) = opens a.kind a.image.now _ c.open.ensures c.in_ok-opened.was in
    written-refused a.image.now (exits _ c.from_residual-in_err-may_commit.ensures) (commit-refused h a.level a.field a.present a.new (sym (same_of c.in_err-may_commit.was (c.may_commit.ensures a.kind x h))))

pub returns : goal.returns
returns c =
    let a = c.args in
    let (x, h) = opens a.kind a.image.now _ c.open.ensures c.in_ok-opened.was in
    let e = sym (same_of c.in_ok-may_commit.was (c.may_commit.ensures a.kind x h)) in
    written-done a.image.now (commit-passed h a.level a.field a.present a.new e) (c.put_code.ensures a.kind x h)
