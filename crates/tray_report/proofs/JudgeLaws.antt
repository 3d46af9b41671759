-- Laws of a tray with one more image.
use Rattle.tray_report.proofs.Names.{◌≡◌, Bool, true, ◌&&◌, List, ℕ, ◌+◌, ◌^◌, ◌<◌, arith, ltb-true, ltb, length, both, image_sizes, Outcome, Summary, check, Line, SoFar, bits_of, line, is_whole, begun, with}
use Rattle.tray_report.proofs.Names.{Reads, Sound, JudgedAs}
use Rattle.tray_report.proofs.BitLaws.{bits-of-few}

pub begun-sound : Sound begun
begun-sound = record { few = omega arith; small = omega arith; last = λ _. omega arith }

module _ (s : SoFar) (kind : ℕ) (image : List ℕ) (h : Sound s) (m : s.more ≡ true) where
  pub with-sound : Sound (with s kind image)
  with-sound =
      record {
        few = omega (arith, h.last m);
        small = omega (arith, h.small, bits-of-few kind image);
        last = λ e. ltb-true (s.images + 1) 1_000 (both (is_whole (image_sizes kind (length image))) (ltb (s.images + 1) 1_000) e).1;
      }

  module _ (checked : Outcome Summary) (e : checked ≡ check kind image) where
    pub bits_fit : s.bits + bits_of (checked) < 2 ^ 64
    bits_fit = rw e (omega (arith, h.few, h.small, bits-of-few kind image))

    pub judged-as : (l : Line) (bits : ℕ) (whole more : Bool) → Reads l (line (s.images + 1) (checked)) →
        bits ≡ s.bits + bits_of (checked) → whole ≡ is_whole (image_sizes kind (length image)) → more ≡ (whole && ltb (s.images + 1) 1_000) →
        JudgedAs s kind image (record { line = l; tray = record { images = s.images + 1; bits = bits; more = more } })
    judged-as l bits whole more r b w n =
        let same : record { images = s.images + 1; bits = bits; more = more } ≡ with s kind image = rw (n, w, b, e) in
        record { line = rw e at r; tray = same; sound = rw same with-sound }
