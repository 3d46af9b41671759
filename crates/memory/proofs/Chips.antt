-- Laws of the sizes of every accepted image.
use Rattle.memory.proofs.Names.{◌≡◌, refl, subst, ◌∙◌, not, cond, List, ℕ, zero, suc, ◌≤◌, arith, length, eqb, eqb-true, not-false, Ok, Err, WrongImage, good-same, no_value_lem, good-bind, passed, bind-good}
use Rattle.memory.proofs.Names.{chosen, Sizes, sizes_of, image_bytes, image_sizes, WholeImage}

pub sizes-kind : (kind bytes : ℕ) (z : Sizes) → sizes_of kind ≡ Ok z → image_sizes kind bytes ≡ cond (eqb bytes (image_bytes z)) (Ok z) (Err WrongImage)
unfolding image_sizes
sizes-kind kind bytes z e = bind-good _ e ∙ chosen z WrongImage (eqb bytes (image_bytes z))

pub sizes-others : (kind bytes : ℕ) → (kind ≡ 0 → ⊥) → (kind ≡ 1 → ⊥) → (kind ≡ 2 → ⊥) → image_sizes kind bytes ≡ Err WrongImage
unfolding image_sizes
sizes-others zero bytes h i j = absurd (h refl)
sizes-others (suc zero) bytes h i j = absurd (i refl)
sizes-others (suc (suc zero)) bytes h i j = absurd (j refl)
sizes-others (suc (suc (suc k))) bytes h i j = refl

-- An image of this many bytes has at least one page,
-- at most 8 bytes of register, and at most 512 bytes.
pub record Chip (z : Sizes) (bytes : ℕ) : Type 0 where
  pub long : bytes ≡ image_bytes z
  pub paged : 1 ≤ z.pages
  pub few : z.register ≤ 8
  pub most : image_bytes z ≤ 512

kind-sizes : (kind : ℕ) (z : Sizes) → sizes_of kind ≡ Ok z → (1 ≤ z.pages) × (z.register ≤ 8) × (image_bytes z ≤ 512)
kind-sizes zero z e = rw (← good-same e) (omega arith)
kind-sizes (suc zero) z e = rw (← good-same e) (omega arith)
kind-sizes (suc (suc zero)) z e = rw (← good-same e) (omega arith)
kind-sizes (suc (suc (suc k))) z e = no_value_lem e

pub sizes-chip : (kind bytes : ℕ) (z : Sizes) → image_sizes kind bytes ≡ Ok z → Chip z bytes
unfolding image_sizes
sizes-chip kind bytes z e =
    let (y, s, t) = good-bind (sizes_of kind) _ z e in
    let (right, same) = passed WrongImage (not (eqb bytes (image_bytes y))) (Ok y) z t in
    let (paged, few, most) = kind-sizes kind y s in
    subst (λ x. Chip x bytes) (good-same same) (record { long = eqb-true bytes (image_bytes y) (not-false _ right); paged = paged; few = few; most = most })

pub sizes-whole : (kind : ℕ) (image : List ℕ) (z : Sizes) → image_sizes kind (length image) ≡ Ok z → WholeImage z image
sizes-whole kind image z e =
    let c = sizes-chip kind (length image) z e in
    record { long = c.long; small = omega arith; paged = c.paged; few = c.few }
