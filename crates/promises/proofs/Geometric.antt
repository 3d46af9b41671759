-- Proof that a geometric figure is stored by ratio.
use Rattle.promises.proofs.Names.{◌≡◌, ap, ◌∙◌, ℕ, suc, ◌≤◌, arith, pos, Ok, le-lt_z, Scale, Row, Geometric, Whole, top_code, progression, geometric_value, stored_at, encode, Rising, values-rise, no_less}
use Rattle.promises.proofs.Names.{geometric-by-ratio, EncodedByRatio}

-- A figure from the least to the greatest value is stored at the code of the storing rule.
stored : (row : Row) (scale : Scale) (place w : ℕ) → row.rule ≡ Geometric scale →
    let value = geometric_value (progression scale) in
    value 0 ≤ w → w ≤ value (top_code row.width) → encode row place (Whole (pos w)) ≡ Ok (stored_at value (top_code row.width) w)
unfolding encode
stored row scale place w e l h =
    let value = geometric_value (progression scale) in
    rw (e, le-lt_z (pos w) (pos (value 0)) (omega arith), le-lt_z (pos (value (top_code row.width))) (pos w) (omega arith))

pub encoded-by-ratio : EncodedByRatio
encoded-by-ratio row scale place c w rule width inside l h =
    let value = geometric_value (progression scale) in
    let n = top_code row.width in
    let rising : Rising value n = rw width (values-rise scale) in
    let code = stored row scale place w rule (omega (arith, no_less value n 0 c rising (omega arith) (omega arith))) (omega (arith, no_less value n (suc c) n rising (omega arith) (omega arith))) in
    let by = geometric-by-ratio value n c w rising inside l h in
    (λ up. code ∙ ap Ok (by.0 up), λ stay. code ∙ ap Ok (by.1 stay))
