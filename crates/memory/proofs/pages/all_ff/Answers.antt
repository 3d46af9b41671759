use borrow.Author.{Tests.tests}
use Rattle.std.proofs.lemmas.Iterator.{cases_from_all, YieldsList-from_slice}
use Rattle.std.specs.Bool.{MatchBool}
use Rattle.std.specs.List.{AllWithin, HoldsAt}
use Rattle.memory.proofs.Names.{◌≡◌, arith, rules, refl, sym, true, false, Bool, List, ℕ, ◌<◌, length, all_ff}
use Rattle.memory.proofs.SumLaws.{at-ff, ff-at}
use Rattle.memory.proofs.pages.all_ff.Goals as goal

-- The answer of the test of each byte.
ff-is : (bytes : List ℕ) (r : Bool) → MatchBool r (AllWithin (λ (b : ℕ). b ≡ 255) bytes 0 (length bytes)) ((k : ℕ) × (k < length bytes) × HoldsAt (λ (b : ℕ). b ≡ 255 → ⊥) bytes k) → r ≡ all_ff bytes
ff-is bytes true h = sym (at-ff bytes (λ i l. h i 0 (omega arith) l))
ff-is bytes false (k, l, n) = go (all_ff bytes) refl
  where
    go : (b : Bool) → all_ff bytes ≡ b → false ≡ b
    go false e = refl
    go true e = absurd (n 0 (ff-at bytes e k l))

pub returns : goal.returns
returns c =
    ff-is c.args.bytes.now c.all.result (cases_from_all _ _ c.all.result (λ b. b ≡ 255) (λ b. b ≡ 255 → ⊥) c.all.ensures.ran (YieldsList-from_slice c.args.bytes.now cc) (λ x q k. search (rules, tests)) (λ x q k. search (rules, tests)))
