use Rattle.index.proofs.Names.{◌≡◌, ap, ap₂, ◌∙◌, [], ◌∷◌, ℕ, ◌+◌, ◌*◌, arith, get_or, number, entry}
use Rattle.index.proofs.entries.entry_at.Goals as goal

pub returns : goal.returns
returns c =
    let a = c.args in
    let e : 4 * a.i + 2 + 1 ≡ 4 * a.i + 3 = omega arith in
    ap₂ entry c.two.ensures (c.two-2.ensures ∙ ap (λ (n : ℕ). number (get_or a.index.now (4 * a.i + 2) 0 ∷ get_or a.index.now n 0 ∷ [])) e)
