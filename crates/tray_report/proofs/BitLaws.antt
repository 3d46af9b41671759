-- A law of bits: no image has more than the largest chip's stream.
use Rattle.tray_report.proofs.Names.{◌≡◌, refl, ap, List, ℕ, ◌≤◌, arith, length, Outcome, Ok, Err, good-same, good-bind, sizes-chip, contents, contents-accepted, Summary, summary, check, bits_of, FewBits}

pub few_bits : FewBits
unfolding check
few_bits kind image s e =
    let (c, read, same) = good-bind (contents kind image) (λ c. Ok (summary c)) s e in
    let a = contents-accepted kind image c read in
    omega (arith, sizes-chip kind (length image) a.sizes a.sized, a.holding.inside, ap (λ (t : Summary). t.bits) (good-same same))

pub bits-of-few : (kind : ℕ) (image : List ℕ) → bits_of (check kind image) ≤ 3_968
bits-of-few kind image = go (check kind image) refl
  where
    go : (o : Outcome Summary) → check kind image ≡ o → bits_of o ≤ 3_968
    go (Ok s) e = few_bits kind image s e
    go (Err r) e = omega arith
