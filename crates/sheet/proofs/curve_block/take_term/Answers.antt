-- A valid term of 39 bits, or the outcome of its fields one by one.
use Rattle.sheet.proofs.Names.{ap₂, ◌∙◌, Some, ℕ, arith, and_mask, Ok, stream_in, parsed}
use Rattle.sheet.proofs.Steps.{got, bits-here}
use Rattle.sheet.proofs.CurveSteps.{term-at-once}
use Rattle.sheet.proofs.curve_block.take_term.Goals as goal

pub is_term-requires : goal.is_term-requires
is_term-requires c =
    let a = c.args in
    let e = got a.sizes a.image.now a.cursor.at 39 _ c.take.ensures c.in-Ok.is in
    omega (arith, (bits-here (stream_in a.sizes a.image.now) a.cursor.at 39 e).2, c.requires.small)

pub returns-then-is_term : goal.returns-then-is_term
returns-then-is_term c =
    let a = c.args in
    let s = stream_in a.sizes a.image.now in
    let e = got a.sizes a.image.now a.cursor.at 39 _ c.take.ensures c.in-Ok.is in
    let (is, next, inside) = bits-here s a.cursor.at 39 e in
    ap₂ (λ (k n : ℕ). Ok (parsed (Some k) n)) (and_mask _ 7) next
    ∙ term-at-once s (a.before) a.cursor.at is inside (c.is_term.ensures c.if-is_term.true)

pub returns-in-Err : goal.returns-in-Err
returns-in-Err c = c.take_term_apart.ensures

pub returns-else-is_term : goal.returns-else-is_term
returns-else-is_term c = c.take_term_apart-in-Ok.ensures
