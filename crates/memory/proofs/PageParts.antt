-- Laws of a page's stream bytes, as a part of the image.
use Rattle.memory.proofs.Names.{◌≡◌, sym, ap, ◌∙◌, Bool, cond, List, [], ℕ, ◌+◌, ◌-◌, ◌≤◌, ◌<◌, add-sub_cancel_left, add-one, arith, length, take, drop, drop-cons, lt-ltb, le-ltb, Ok, Refusal, Sizes}
use Rattle.memory.proofs.Names.{Outcome, Ok, Err, image_sizes, page_at, page, part_of, page_bytes}
use Rattle.memory.proofs.Chips.{Chip, sizes-chip}

module _ (kind : ℕ) (image : List ℕ) (a : Outcome Sizes) (said : a ≡ image_sizes kind (length image)) where
  are : (z : Sizes) → a ≡ Ok z → image_sizes kind (length image) ≡ Ok z
  are z e = sym said ∙ e

  pub chip : (z : Sizes) → a ≡ Ok z → Chip z (length image)
  chip z e = sizes-chip kind (length image) z (are z e)

  module _ (i : ℕ) where
    pub part_none : (r : Refusal) → a ≡ Err r → [] ≡ page_bytes kind image i
    unfolding page_bytes
    part_none r e = ap (part_of image i) (sym (e) ∙ said)

    pub part-past : (z : Sizes) → a ≡ Ok z → z.pages ≤ i → [] ≡ page_bytes kind image i
    unfolding page_bytes
    part-past z e h =
        sym (ap (part_of image i) (are z e) ∙ ap (λ (b : Bool). cond b (drop 1 (page z image i)) []) (le-ltb i z.pages h))

    pub part-page : (z : Sizes) → a ≡ Ok z → i < z.pages
        → take (page_at z i + 1 + 31 - (page_at z i + 1)) (drop (page_at z i + 1) image) ≡ page_bytes kind image i
    unfolding page_bytes
    part-page z e h =
        let c = chip z e in
        ap (λ (n : ℕ). take n (drop (page_at z i + 1) image)) (add-sub_cancel_left (page_at z i + 1) 31)
        ∙ ap (λ (n : ℕ). take 31 (drop n image)) (add-one (page_at z i))
        ∙ sym (ap (part_of image i) (are z e) ∙ ap (λ (b : Bool). cond b (drop 1 (page z image i)) []) (lt-ltb i z.pages h)
        ∙ ap (λ (l : List ℕ). drop 1 (take 32 l)) (drop-cons image (page_at z i) 0 (omega arith)))
