-- Laws of an image in which one page's check byte was made right.
use Rattle.memory.proofs.Names.{◌≡◌, sym, ap, ap₂, ◌∙◌, List, ℕ, ◌+◌, ◌-◌, ◌%◌, ◌<◌, zero-add, arith, length, get_or, set, length-set, get_or-set_same, get_or-set_other, Sizes, Bytes, number, image_bytes, page_at, total}
use Rattle.memory.proofs.Names.{page_sum, check_byte, stream_of, stream_number, sealed}
use Rattle.memory.proofs.Digits.{bytes-set}
use Rattle.memory.proofs.Streams.{stream-check}
use Rattle.memory.proofs.SumLaws.{stream_part, covered-total, sum-parts, sum_same, check-right, check-is, check-lt}

module _ (z : Sizes) (image : List ℕ) (whole : length image ≡ image_bytes z) (p : ℕ) (hp : p < z.pages) where
  -- The right check byte for page p's part of the stream.
  abbrev wanted : ℕ
  wanted = check_byte (total (stream_part z (stream_of z image) p))

  sealed-set : sealed z image p ≡ set image (page_at z p) wanted
  unfolding sealed
  sealed-set =
      let cleared : List ℕ = set image (page_at z p) 0 in
      ap (λ (x : ℕ). set image (page_at z p) (check_byte x))
      (covered-total z cleared (length-set image (page_at z p) 0 ∙ whole) p hp
      ∙ ap₂ (λ (x : ℕ) (y : List ℕ). x + total (stream_part z y p)) (get_or-set_same image (page_at z p) 0 0 (omega arith)) (stream-check z image whole p 0)
      ∙ zero-add _)

  pub seal-length : length (sealed z image p) ≡ image_bytes z
  seal-length = ap length sealed-set ∙ length-set image (page_at z p) wanted ∙ whole

  pub seal-bytes : Bytes image → Bytes (sealed z image p)
  seal-bytes h = rw sealed-set (bytes-set image (page_at z p) wanted h (check-lt _))

  pub seal-stream : stream_of z (sealed z image p) ≡ stream_of z image
  seal-stream = ap (stream_of z) sealed-set ∙ stream-check z image whole p wanted

  pub seal-number : stream_number z (sealed z image p) ≡ stream_number z image
  seal-number = ap number seal-stream

  seal-check : get_or (sealed z image p) (page_at z p) 0 ≡ wanted
  seal-check = ap (λ (x : List ℕ). get_or x (page_at z p) 0) sealed-set ∙ get_or-set_same image (page_at z p) wanted 0 (omega arith)

  -- The sealed page adds up to 0.
  pub seal-sum : page_sum z (sealed z image p) p ≡ 0
  seal-sum =
      sum-parts z (sealed z image p) seal-length p hp
      ∙ ap₂ (λ (x : ℕ) (y : List ℕ). (x + total (stream_part z y p)) % 256) seal-check seal-stream
      ∙ check-right (total (stream_part z (stream_of z image) p))

  -- Any other byte is unchanged, and so is any other page's sum.
  pub seal-other : (i : ℕ) → (i ≡ page_at z p → ⊥) → get_or (sealed z image p) i 0 ≡ get_or image i 0
  seal-other i n = ap (λ (x : List ℕ). get_or x i 0) sealed-set ∙ get_or-set_other image (page_at z p) i wanted 0 n

  pub seal-others : (q : ℕ) → q < z.pages → (q ≡ p → ⊥) → page_sum z (sealed z image p) q ≡ page_sum z image q
  seal-others q hq n =
      sum_same z image whole q hq (sealed z image p) seal-length (seal-other (page_at z q) (λ e. n (omega arith)))
      (ap (λ (x : List ℕ). stream_part z x q) seal-stream)

  -- The byte that the code stores: the check byte less the page's sum, modulo 256.
  pub seal-code : set image (page_at z p) ((get_or image (page_at z p) 0 + (256 - page_sum z image p)) % 256) ≡ sealed z image p
  seal-code =
      let b : ℕ = (get_or image (page_at z p) 0 + (256 - page_sum z image p)) % 256 in
      ap (set image (page_at z p)) (check-is b (total (stream_part z (stream_of z image) p)) (omega arith) (omega (arith, sum-parts z image whole p hp))) ∙ sym sealed-set
