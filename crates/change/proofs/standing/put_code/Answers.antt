use Rattle.change.proofs.Names.{sym, ap, ap₂, ◌∙◌, subst, ℕ, ◌^◌, ◌<◌, arith, image_of, put_at, stream_number, at-is, width_is}
use Rattle.change.proofs.PartLaws.{stands_here, in-stream, opened-right}
use Rattle.change.proofs.standing.put_code.Goals as goal

pub row_of-row-requires : goal.row_of-row-requires
row_of-row-requires c = let p = c.requires.field in (p.1, p.2)

pub locate-requires : goal.locate-requires
locate-requires c = let p = c.requires.field in (p.1, omega (arith, p.2))

pub rewrite-requires : goal.rewrite-requires
rewrite-requires c =
    let f = c.args.field in
    let (held, lo, hi) = c.requires.field in
    let w = ap (λ r. r.width) c.row_of-row.ensures in
    record { in_stream = (in-stream held.opens f lo hi c.locate.ensures w, subst (λ n. c.args.code < 2 ^ n) (sym w) c.requires.fits); le_pages = opened-right held.opens f }

pub returns : goal.returns
returns c =
    let a = c.args in
    let z = a.sheet.sizes in
    let n = a.image.now in
    λ kind x h.
    let s = (stands_here h a.field c.requires.field.1 c.requires.field.2).field in
    c.rewrite.ensures
    ∙ ap₂ (λ (at w : ℕ). image_of z (put_at (stream_number z n) at w a.code)) (c.locate.ensures ∙ sym (at-is s)) (ap (λ r. r.width) c.row_of-row.ensures ∙ sym (width_is s))
