use Rattle.refusal.proofs.Outcomes.{exits}
use Rattle.sheet.proofs.Names.{refl, sym, ap, ◌∙◌, inl, inr, arith, Ok, last_field}
use Rattle.sheet.proofs.OpenLaws.{opens, held, not_opened}
use Rattle.sheet.proofs.HeldLaws.{layout_is}
use Rattle.sheet.proofs.ReadLaws.{accepted-reads, refused-reads}
use Rattle.sheet.proofs.calls.read_field.Goals as goal
use Rattle.sheet.proofs.calls.read_field.Goals.{After-open}

pub returns-then-field-lt1 : goal.returns-then-field-lt1
returns-then-field-lt1 c =
    let a = c.args in
    let (x, p) = opens a.kind a.image.now _ (goal.at.returns-then-field-lt1 c).After-open.«open».ensures c.in_ok-sheet.was in
    sym ((accepted-reads a.kind a.image.now x p.accepted).no_field a.field (inl c.if-field-lt1.true))

pub returns-then-last_field-field : goal.returns-then-last_field-field
returns-then-last_field-field c =
    let a = c.args in
    let (x, p) = opens a.kind a.image.now _ (goal.at.returns-then-last_field-field c).After-open.«open».ensures c.in_ok-sheet.was in
    refl
    ∙ sym ((accepted-reads a.kind a.image.now x p.accepted).no_field a.field (inr (omega (arith, c.last_field.ensures, ap (λ l. last_field l.template) (layout_is p)))))

pub value_in-requires : goal.value_in-requires
value_in-requires c =
    let a = c.args in
    (held a.kind a.image.now _ (goal.at.value_in-requires c).After-open.«open».ensures c.in_ok-sheet.was, omega arith, omega (arith, c.last_field.ensures))

pub returns-in_err-sheet : goal.returns-in_err-sheet
returns-in_err-sheet c =
    let a = c.args in
    exits _ c.from_residual.ensures ∙ (sym ((refused-reads a.kind a.image.now _ (not_opened a.kind a.image.now _ (goal.at.returns-in_err-sheet c).After-open.«open».ensures c.in_err-sheet.was)).field a.field))

pub returns : goal.returns
returns c =
    let a = c.args in
    let (x, p) = opens a.kind a.image.now _ (goal.at.returns c).After-open.«open».ensures c.in_ok-sheet.was in
    ap Ok (c.value_in.ensures a.kind x p)
    ∙ sym ((accepted-reads a.kind a.image.now x p.accepted).fields a.field (omega arith) (omega (arith, c.last_field.ensures, ap (λ l. last_field l.template) (layout_is p))))
