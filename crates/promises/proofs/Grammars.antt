-- Proof that a build and a check share one grammar.
use Rattle.promises.proofs.Names.{◌≡◌, refl, sym, ap₂, subst, Bool, ◌&&◌, List, [], ◌∷◌, ◌++◌, map, ℕ, ◌+◌, ◌-◌, leb, Piece, piece, needed, Format, ends, stops, takes, looks, sheet_of, Parses, zero_if, sheet-parses}
use Rattle.promises.proofs.Names.{laid, OneGrammar}
use Rattle.promises.proofs.PlannedSheet.{plan-stands}
use Rattle.promises.proofs.Written.{real-at}

-- The first pieces that a format reads are those laid by their codes.
codes-laid : {A : Type 0} (S : ℕ) (f : Format A) (at : ℕ) (ps qs : List Piece) (b : A) → Parses S f at (ps ++ qs) b → laid S f at (map (λ p. p.code) ps) ≡ ps
codes-laid S (ends a) at [] qs b l = refl
codes-laid S (ends a) at (p ∷ ps) qs b l = absurd l
codes-laid S (stops r) at ps qs b l = absurd l
codes-laid S (takes w next) at [] qs b l = refl
codes-laid S (takes w next) at (p ∷ ps) qs b l = ap₂ (λ (n : ℕ) rest. piece n p.code ∷ rest) (sym l.0) (codes-laid S (next p.code) (at + w) ps qs b l.2)
codes-laid S (looks next) at ps qs b l = codes-laid S (next at (S - at)) at ps qs b l

pub one-grammar : OneGrammar
one-grammar S sheet text table pieces lendable behind plans inside =
    let p = plan-stands S sheet text table pieces (λ f. real-at sheet.fields lendable.singles (f - 1)) behind plans inside in
    let t : Bool = sheet.end_bit && leb (needed pieces + 7) S in
    codes-laid S sheet_of 0 pieces (zero_if t) p.contents (subst (λ q. Parses S sheet_of 0 q p.contents) p.pieces_are (sheet-parses p.formed))
