-- Laws of fields of the stream, and of what a change or a commit leaves unchanged.
use Rattle.promises.proofs.Names.{◌≡◌, sym, ap, ap₂, ◌∙◌, subst, List, ◌⊎◌, inl, inr, ℕ, ◌+◌, ◌^◌, ◌≤◌, ◌<◌, arith, length, Ok, good-same, Sizes, Bytes, bit, put_at, image_sizes, stream_bits, stream_of}
use Rattle.promises.proofs.Names.{stream_number, field-bit, put-field, put-before, put-after, put-lt, bit_at, sizes-chip, stream-bytes, stream-lt, sums-right, image-number-lt, mended-check, Level, reads-back}
use Rattle.promises.proofs.Names.{Found, Contents, contents, field, accepted-at, code_for, recoded_in, Changeable, code-found, change-made, field-sound, field-inside, Committed, stands-fits, commit-made, StreamBit}
use Rattle.promises.proofs.Names.{FirstBitLowest, Puts, AltersNoOther, ChangeAltersNoOther, CommitAltersNoOther}

pub stream-bit : StreamBit
stream-bit kind image z bytes sizes n = bit_at (stream_of z image) (stream-bytes z image (sizes-chip kind (length image) z sizes).long bytes) n

pub first-bit-lowest : FirstBitLowest
first-bit-lowest = field-bit

pub puts : Puts
puts N n w code fits = record { stands = put-field N n w code fits; others = others }
  where
    others : (i : ℕ) → (i < n) ⊎ (n + w ≤ i) → bit (put_at N n w code) i ≡ bit N i
    others i (inl h) = put-before N n w code fits i 1 (omega arith)
    others i (inr h) = put-after N n w code fits i 1 h

-- A field with a code that fits it.
module _ (kind : ℕ) (image : List ℕ) (z : Sizes) (c : Contents) (level : Level) (f : ℕ) (bytes : Bytes image) (sizes : image_sizes kind (length image) ≡ Ok z)
    (e : contents kind image ≡ Ok c) (free : Changeable c level f) where
  abbrev x : Found
  x = field c f

  recode-alters-no-other : (code : ℕ) → code < 2 ^ x.row.width → AltersNoOther z x image (recoded_in z image x code)
  recode-alters-no-other code fits =
      let N : ℕ = stream_number z image in
      let sound = field-sound kind image c z bytes e sizes level f free in
      let inside = field-inside kind image c z bytes e sizes level f free in
      let chip = sizes-chip kind (length image) z sizes in
      let small = put-lt N x.at x.row.width code fits (stream_bits z) (stream-lt z image chip.long bytes) inside in
      let number : stream_number z (recoded_in z image x code) ≡ put_at N x.at x.row.width code = image-number-lt z _ small in
      record {
        stream = λ n o. ap (λ (M : ℕ). bit M n) number ∙ (puts N x.at x.row.width code fits).others n o;
        checks =
            mended-check z image chip.long bytes x.at x.row.width code inside sound.some (omega (arith, sound.most)) fits chip.paged
            (sums-right z image (accepted-at kind image c z e sizes).0);
      }

pub change-alters-no-other : ChangeAltersNoOther
change-alters-no-other kind image after z c level f v bytes real sizes e h =
    let m = change-made kind image level f v after h in
    let same : m.held ≡ c = good-same (sym m.accepted ∙ e) in
    let sized : m.sizes ≡ z = good-same (sym m.sized ∙ sizes) in
    let (free, stored) = code-found c level f v m.code (subst (λ d. code_for d level f v ≡ Ok m.code) same m.coded) in
    let fits = (reads-back (field c f).row f (field c f).at m.code v (field-sound kind image c z bytes e sizes level f free) real stored).0 in
    subst (AltersNoOther z (field c f) image) (sym (m.is ∙ ap₂ (λ d y. recoded_in y image (field d f) m.code) same sized))
    (recode-alters-no-other kind image z c level f bytes sizes e free m.code fits)

pub commit-alters-no-other : CommitAltersNoOther
commit-alters-no-other kind image after z c level f present new bytes sizes e h =
    let m = commit-made kind image level f present new after h in
    let same : m.held ≡ c = good-same (sym m.accepted ∙ e) in
    let sized : m.sizes ≡ z = good-same (sym m.sized ∙ sizes) in
    let t : Committed c level f present new = subst (λ d. Committed d level f present new) same m.tested in
    subst (AltersNoOther z (field c f) image) (sym (m.is ∙ ap₂ (λ d y. recoded_in y image (field d f) new) same sized))
    (recode-alters-no-other kind image z c level f bytes sizes e t.free new (stands-fits (field c f).row new t.stands))
