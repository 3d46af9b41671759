use Rattle.build.proofs.Names.{◌≡◌, sym, ap, ◌∙◌, ℕ, ◌-◌, ◌^◌, ◌<◌, arith, bit_or, or_shifted, get_or, shl_exact, pack}
use Rattle.build.proofs.TextTurns.{chars, chars-none, chars-more, six-lt}
use Rattle.build.proofs.write.pack_characters.Goals as goal

pub loop-j-init : goal.loop-j-init
loop-j-init c =
    let a = c.args in
    (c.requires.0, omega arith, sym (chars-none a.text.now a.end a.end c.requires.2 (omega arith)))

pub overflow_cast-code : goal.overflow_cast-code
overflow_cast-code c = omega (arith, c.requires.3 (c.loop-j.j - 1))

pub loop-j-preserved : goal.loop-j-preserved
loop-j-preserved c =
    let l = c.loop-j in
    let more = chars-more c.args.text.now l.j c.args.end c.requires.2 (omega (arith, c.loop-j-test.true)) l.invariant.1 in
    let byte = c.requires.3 (l.j - 1) in
    let small : l.code < 2 ^ 42 = omega (arith, six-lt c.args.text.now l.j c.args.end c.requires.2 c.requires.3 (omega (arith, c.loop-j-test.true)), l.invariant.2) in
    let joined = ap (λ (x : ℕ). bit_or x (get_or c.args.text.now (l.j - 1) 0)) (shl_exact 42 7 64 small (omega arith)) ∙ or_shifted l.code 7 (get_or c.args.text.now (l.j - 1) 0) byte in
    (omega (arith, c.loop-j-test.true), omega (arith, l.invariant.1), omega (arith, joined, more, l.invariant.2))

pub returns : goal.returns
returns c =
    let a = c.args in
    let l = c.loop-j in
    let e : l.j ≡ a.i = omega (arith, l.invariant.0, c.loop-j-test.false) in
    l.invariant.2 ∙ ap (λ (n : ℕ). pack (chars a.text.now n a.end)) e
