use Rattle.refusal.proofs.Outcomes.{exits}
use Rattle.sheet.proofs.Names.{sym, ap, ◌∙◌, ⊎_elim, arith, Ok, Err, Character}
use Rattle.sheet.proofs.OpenLaws.{item-opens, item-held, item-none}
use Rattle.sheet.proofs.HeldLaws.{characters-are}
use Rattle.sheet.proofs.ReadLaws.{accepted-reads, refused-reads}
use Rattle.sheet.proofs.calls.read_character.Goals as goal

pub character_in-requires : goal.character_in-requires
character_in-requires c =
    let a = c.args in
    item-held a.kind a.image.now Character a.index _ c.open_at.ensures c.in_ok-sheet.was

pub returns-in_err-sheet : goal.returns-in_err-sheet
returns-in_err-sheet c =
    let a = c.args in
    exits _ c.from_residual.ensures ∙ (⊎_elim (λ e. sym ((refused-reads a.kind a.image.now _ e).character a.index))
    (λ w. ap Err w.3 ∙ sym ((accepted-reads a.kind a.image.now w.0 w.1).no_character a.index w.2))
    (item-none a.kind a.image.now Character a.index _ c.open_at.ensures c.in_err-sheet.was))

pub returns : goal.returns
returns c =
    let a = c.args in
    let (x, p, l) = item-opens a.kind a.image.now Character a.index _ c.open_at.ensures c.in_ok-sheet.was in
    ap Ok (c.character_in.ensures a.kind x p) ∙ sym ((accepted-reads a.kind a.image.now x p.accepted).characters a.index (omega (arith, characters-are p)))
