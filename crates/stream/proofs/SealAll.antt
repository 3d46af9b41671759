-- Laws of sealing every page in turn.
use Rattle.stream.proofs.Names.{◌≡◌, refl, ap, ◌∙◌, List, ℕ, ◌+◌, ◌≤◌, ◌<◌, ℕ_discrete, arith, length, Sizes, Bytes, image_bytes, page_sum, stream_number, image_of, sealed, WholeImage, image-is, seal-length}
use Rattle.stream.proofs.Names.{seal-bytes, seal-number, seal-sum, seal-others}

-- The first n pages of `before` are sealed.
pub record Sealed (z : Sizes) (before : List ℕ) (n : ℕ) (image : List ℕ) : Type 0 where
  pub whole : length image ≡ image_bytes z
  pub bytes : Bytes image
  pub stream : stream_number z image ≡ stream_number z before
  pub sums : (q : ℕ) → q < n → page_sum z image q ≡ 0

pub sealed-none : {z : Sizes} {image : List ℕ} → WholeImage z image → Bytes image → Sealed z image 0 image
sealed-none w b = record { whole = w.long; bytes = b; stream = refl; sums = λ q h. absurd (omega arith) }

pub sealed-more : (z : Sizes) {before image : List ℕ} (n : ℕ) → n < z.pages → Sealed z before n image → Sealed z before (n + 1) (sealed z image n)
sealed-more z {before} {image} n h s =
    record {
      whole = seal-length z image s.whole n h;
      bytes = seal-bytes z image s.whole n h s.bytes;
      stream = seal-number z image s.whole n h ∙ s.stream;
      sums = λ q k. go q k (ℕ_discrete q n);
    }
  where
    go : (q : ℕ) → q < n + 1 → Dec (q ≡ n) → page_sum z (sealed z image n) q ≡ 0
    go q k (yes e) = ap (page_sum z (sealed z image n)) e ∙ seal-sum z image s.whole n h
    go q k (no e) = seal-others z image s.whole n h q (omega arith) e ∙ s.sums q (omega arith)

pub sealed-all : (z : Sizes) {before image : List ℕ} (n : ℕ) → z.pages ≤ n → Sealed z before n image → image ≡ image_of z (stream_number z before)
sealed-all z {before} {image} n h s =
    image-is z (stream_number z before) image s.whole s.bytes (λ q k. s.sums q (omega arith)) s.stream
