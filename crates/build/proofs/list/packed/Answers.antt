use Rattle.build.proofs.Names.{ap, ◌∙◌, ℕ, ◌^◌, ◌<◌, arith, bit_or, or_shifted, shl_exact, lt_of_lt_of_le, pow_mono}
use Rattle.build.proofs.list.packed.Goals as goal

pub returns : goal.returns
returns c =
    let a = c.args in
    let below : a.code < 2 ^ 56 = lt_of_lt_of_le c.requires.fits (pow_mono {i = a.width} {j = 56} (omega (arith, c.requires.most))) in
    let small : a.width < 2 ^ 8 = omega (arith, c.requires.most) in
    let joined = ap (λ (x : ℕ). bit_or x a.code) (shl_exact 8 56 64 small (omega arith)) ∙ or_shifted a.width 56 a.code below in
    (omega (arith, joined, below), omega (arith, joined, below))
