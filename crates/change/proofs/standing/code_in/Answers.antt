use Rattle.change.proofs.Names.{ap, ◌∙◌, arith, good-same, no_value_lem, row-sound, got, past, held_whole}
use Rattle.change.proofs.CommitLaws.{field-taken}
use Rattle.change.proofs.standing.code_in.Goals as goal

pub row_of-row-requires : goal.row_of-row-requires
row_of-row-requires c = let p = c.requires in (p.1, p.2)

pub locate-requires : goal.locate-requires
locate-requires c = let p = c.requires in (p.1, omega (arith, p.2))

pub take-requires : goal.take-requires
take-requires c =
    let w = ap (λ r. r.width) c.row_of-row.ensures in
    let s = row-sound c.args.sheet.layout c.args.field c.requires.1 c.requires.2 in
    (held_whole c.requires.0.opens, omega (arith, w, s.some), omega (arith, w, s.most))

pub returns-in_default : goal.returns-in_default
returns-in_default c =
    let a = c.args in
    λ kind x h.
    no_value_lem
    (past a.sheet.sizes a.image.now _ _ _ c.take.ensures c.in_default.is
    ∙ field-taken h a.field c.requires.1 c.requires.2 c.locate.ensures (ap (λ r. r.width) c.row_of-row.ensures))

pub returns : goal.returns
returns c =
    let a = c.args in
    λ kind x h.
    ap (λ y. y.found) (good-same
    (got a.sheet.sizes a.image.now _ _ _ c.take.ensures c.in-Ok.is
    ∙ field-taken h a.field c.requires.1 c.requires.2 c.locate.ensures (ap (λ r. r.width) c.row_of-row.ensures)))
