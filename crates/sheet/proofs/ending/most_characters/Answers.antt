use Rattle.sheet.proofs.Names.{arith, eq-eqb, ne_eqb}
use Rattle.sheet.proofs.ending.most_characters.Goals as goal

pub returns-then-bit-ne1 : goal.returns-then-bit-ne1
returns-then-bit-ne1 c = simp (ne_eqb _ _ c.if-bit-ne1.true)

pub returns-then-bits-at : goal.returns-then-bits-at
returns-then-bits-at c = simp (eq-eqb _ _ c.if-bit-ne1.false) (omega arith)

pub returns : goal.returns
returns c = simp (eq-eqb _ _ c.if-bit-ne1.false, ← c.stream_bits-bits.ensures)
