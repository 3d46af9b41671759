use Rattle.templates.proofs.Names.{◌≡◌, sym, ap, ap₂, ◌∙◌, ℕ, ◌+◌, ◌*◌, ◌/◌, ◌%◌, ◌^◌, ◌<◌, zero-add, arith, and_mask, ℤ, pos, negsuc, ◌+ℤ◌, w64, SFits, to_z, to_z-of_z, to_z_pos, up, dn, add_parts, D, R}
use Rattle.templates.proofs.Names.{least_deviation}
use Rattle.templates.proofs.calibration.pair_of.Goals as goal

difference-fits : (z : ℤ) (n : ℕ) → up z + 1_000_000_000 ≡ dn z + n → n < 2 ^ 63 → SFits w64 z
difference-fits (pos k) n e l = record { sfits = omega arith }
difference-fits (negsuc k) n e l = record { sfits = omega arith }

deviation-fits : (n : ℕ) → n < 2 ^ 63 → SFits w64 (least_deviation +ℤ to_z w64 n)
deviation-fits n l = rw (to_z_pos w64 l) (difference-fits (least_deviation +ℤ pos n) n (omega (arith, add_parts least_deviation (pos n))) l)

pub overflow_mul-result : goal.overflow_mul-result
overflow_mul-result c = omega (arith, and_mask c.args.code 16)

pub overflow_cast-result : goal.overflow_cast-result
overflow_cast-result c = omega (arith, and_mask c.args.code 16)

pub overflow_add-result : goal.overflow_add-result
overflow_add-result c = deviation-fits (R * (c.args.code / 2 ^ 16)) (omega (arith, c.requires))

pub returns : goal.returns
returns c =
    let code : ℕ = c.args.code in
    let p : D * (code % 2 ^ 16) < 2 ^ 63 = omega arith in
    let d : R * (code / 2 ^ 16) < 2 ^ 63 = omega (arith, c.requires) in
    ap₂ (λ (y z : ℤ). record { point = y; deviation = z })
    (ap (λ (n : ℕ). to_z w64 (D * n)) (and_mask code 16) ∙ to_z_pos w64 p ∙ ap pos (sym (zero-add _)))
    (to_z-of_z {w = w64} (deviation-fits _ d) ∙ ap (λ (z : ℤ). least_deviation +ℤ z) (to_z_pos w64 d))
