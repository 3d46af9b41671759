-- What the words of a line hand to a call: the first elements of a room, and the kind and the image.
use Rattle.commands.proofs.Names.{◌≡◌, refl, sym, ap, ◌∙◌, Bool, true, false, List, Option, None, Some, ℕ, ◌≤◌, ◌<◌, arith, length, take, lt-leb, le-leb, leb, length-take-le, take-append_seam, ◌++◌, says◌if◌}
use Rattle.commands.proofs.Names.{◌>>=◌, within, front_said, Held, Option, Some, None, filled, filled_said, every, written, is_whole, whole_room, whole-said, not-whole, written-long, filled-whole}
use Rattle.commands.proofs.Names.{number, bytes, word_at, kind_of, Chip, chip_of, Lent, lent, lent_by, lent_said, Some, None, ChipImage, chip_image}
use Rattle.commands.proofs.Names.{chip_image_said, map, spelt, page_bytes, ChipNumber, Some, None, ImageNumber, number_request, number_request_said, number_reply, page_reply}

some_same : {A : Type 0} {a b : A} → ◌≡◌ {A = Option A} (Some a) (Some b) → a ≡ b
some_same e = cc

no_none : {A X : Type 0} {a : A} → ◌≡◌ {A = Option A} None (Some a) → X
no_none e = absurd (let z : ◌≡◌ {A = ℕ} 0 1 = cc in omega arith)

-- ---- a room that a word filled

-- What a filled room says.
abbrev fronted : {A : Type 0} → Held A → Option (List A)
fronted h = h.count >>= λ n. Some (take n h.all)

module _ {A : Type 0} (said : List (Option A)) (first : List A) where
  too_many : (o : Option (List A)) → ((l : List A) → o ≡ Some l → length first < length l) → (o >>= λ (all : List A). says all if leb (length all) (length first)) ≡ None
  too_many None h = refl
  too_many (Some l) h = rw (lt-leb (length l) (length first) (h l refl))

  pub within-whole : within (length first) said ≡ (says take (length said) (written said first) if is_whole said first)
  unfolding within
  within-whole = go (is_whole said first) refl
    where
      go : (b : Bool) → is_whole said first ≡ b → (every said >>= λ (all : List A). says all if leb (length all) (length first)) ≡ (says take (length said) (written said first) if b)
      go true e =
          let l : length said ≤ length first = whole_room said first e in
          let w : length (written said first) ≡ length first = written-long said first in
          rw (whole-said said first e, length-take-le (length said) (written said first) (omega arith), le-leb (length said) (length first) l)
      go false e = too_many (every said) (λ l. not-whole said first l e)

  fronted-filled : fronted (filled said first) ≡ within (length first) said
  fronted-filled = go (is_whole said first) refl
    where
      go : (b : Bool) → is_whole said first ≡ b → fronted (filled said first) ≡ within (length first) said
      go true e = rw (within-whole, e)
      go false e = rw (within-whole, e)

  pub front-within : (r : Option ℕ) (held : List A) → filled_said r held ≡ filled said first → front_said r held ≡ within (length first) said
  front-within r held e = go r ∙ ap fronted e ∙ fronted-filled
    where
      go : (r : (Option ℕ)) → front_said r held ≡ fronted (filled_said r held)
      go (Some n) = refl
      go None = refl

-- The same of a word, its case known.
pub lent-front : {W A : Type 0} (meaning : W → List (Option A)) (first held : List A) {r x : Option ℕ} {word w : W} → r ≡ x → filled_said r held ≡ filled (meaning word) first → word ≡ w → front_said x held ≡ within (length first) (meaning w)
lent-front {W = W} meaning first held {r = r} {word = word} k e f = sym (ap (λ (y : Option ℕ). front_said y held) k) ∙ front-within (meaning word) first r held e ∙ ap (λ (v : W). within (length first) (meaning v)) f

-- ---- the kind and the image

abbrev imaged : Lent → Option ChipImage
imaged l = l.chip >>= λ c. Some (record { kind = c.kind; image = take c.length l.room })

imaged-by : (kind : Option ℕ) (word first : List ℕ) → imaged (lent_by kind word first) ≡ (kind >>= λ (k : ℕ). within (length first) (bytes word) >>= λ (image : List ℕ). Some (record { kind = kind_of k; image = image }))
imaged-by None word first = refl
imaged-by (Some kind) word first = go (is_whole (bytes word) first) refl
  where
    go : (b : Bool) → is_whole (bytes word) first ≡ b → imaged (lent_by (Some kind) word first) ≡ (within (length first) (bytes word) >>= λ (image : List ℕ). Some (record { kind = kind_of kind; image = image }))
    go true e = rw (within-whole (bytes word) first, e)
    go false e = rw (within-whole (bytes word) first, e)

pub lent-image : (line first held : List ℕ) {r x : (Option Chip)} → r ≡ x → lent_said r held ≡ lent line first → chip_image_said x held ≡ chip_image (length first) line
unfolding chip_image
lent-image line first held {r = r} k e = sym (ap (λ (y : (Option Chip)). chip_image_said y held) k) ∙ go r ∙ ap imaged e ∙ imaged-by (number (word_at 1 line)) (word_at 2 line) first
  where
    go : (r : (Option Chip)) → chip_image_said r held ≡ imaged (lent_said r held)
    go (Some chip) = refl
    go None = refl

-- ---- a part of a room, lent to be written

module _ {A : Type 0} (said : List (Option A)) (first held : List A) where
  pub front-room : {r : Option ℕ} {n : ℕ} → r ≡ Some n → filled_said r held ≡ filled said first → n ≤ length held
  front-room {n = n} k e = go (is_whole said first) refl (sym (ap (λ (y : Option ℕ). filled_said y held) k) ∙ e)
    where
      go : (b : Bool) → is_whole said first ≡ b → record { count = Some n; all = held } ≡ filled said first → n ≤ length held
      go true w e =
          let f : ◌≡◌ {A = Held A} (record { count = Some n; all = held }) (record { count = Some (length said); all = written said first }) = e ∙ filled-whole said first w in
          omega (arith, whole_room said first w, written-long said first, some_same (ap (λ (h : Held A). h.count) f), ap (λ (h : Held A). length h.all) f)
      go false w e =
          let f : ◌≡◌ {A = Held A} (record { count = Some n; all = held }) (record { count = None; all = first }) = e ∙ rw w in
          no_none ((sym (ap (λ (h : Held A). h.count) f)))

pub lent-room : (line first held : List ℕ) {r : (Option Chip)} {chip : Chip} → r ≡ Some chip → lent_said r held ≡ lent line first → chip.length ≤ length held
lent-room line first held {chip = chip} k e = by (number (word_at 1 line)) (sym (ap (λ (y : (Option Chip)). lent_said y held) k) ∙ e)
  where
    by : (o : Option ℕ) → record { chip = Some chip; room = held } ≡ lent_by o (word_at 2 line) first → chip.length ≤ length held
    by None e = no_none ((sym (ap (λ (l : Lent). l.chip) e)))
    by (Some kind) e = go (is_whole (bytes (word_at 2 line)) first) refl
      where
        go : (b : Bool) → is_whole (bytes (word_at 2 line)) first ≡ b → chip.length ≤ length held
        go true w =
            let f : ◌≡◌ {A = Lent} (record { chip = Some chip; room = held }) (record { chip = Some (record { kind = kind_of kind; length = length (bytes (word_at 2 line)) }); room = written (bytes (word_at 2 line)) first }) = e ∙ ap (chip_of kind) (filled-whole (bytes (word_at 2 line)) first w) in
            omega (arith, whole_room (bytes (word_at 2 line)) first w, written-long (bytes (word_at 2 line)) first, ap (λ (c : Chip). c.length) (some_same (ap (λ (l : Lent). l.chip) f)), ap (λ (l : Lent). length l.room) f)
        go false w =
            let g : filled (bytes (word_at 2 line)) first ≡ record { count = None; all = first } = rw w in
            let f : ◌≡◌ {A = Lent} (record { chip = Some chip; room = held }) (record { chip = None; room = first }) = e ∙ ap (chip_of kind) g in
            no_none ((sym (ap (λ (l : Lent). l.chip) f)))

-- What a call left in the part, at the start of the room.
pub part-back : (part rest : List ℕ) (n : ℕ) → length part ≡ n → take n (part ++ rest) ≡ part
part-back part rest n e = rw (← e) (take-append_seam part rest)

-- ---- a call at the kind, the image and the number

module _ {A : Type 0} (call : ℕ → List ℕ → ℕ → A) (line first held : List ℕ) where
  abbrev called : Option ImageNumber → Option A
  called o = o >>= λ r. Some (call r.chip.kind r.chip.image r.number)

  pub number-not : {r : (Option ChipNumber)} → r ≡ None → number_request_said r held ≡ number_request (length first) line → None ≡ number_reply call (length first) line
  number-not k e = ap called (sym (ap (λ (y : (Option ChipNumber)). number_request_said y held) k) ∙ e)

  pub number_is : {r : (Option ChipNumber)} {q : ChipNumber} {image : List ℕ} → r ≡ Some q → number_request_said r held ≡ number_request (length first) line → image ≡ take q.chip.length held → Some (call q.chip.kind image q.number) ≡ number_reply call (length first) line
  number_is {q = q} k e i = ap (λ (m : List ℕ). Some (call q.chip.kind m q.number)) i ∙ ap called (sym (ap (λ (y : (Option ChipNumber)). number_request_said y held) k) ∙ e)

-- ---- a page as digits

module _ (line first held digits : List ℕ) where
  abbrev paged : Option (List ℕ) → Option (List ℕ)
  paged o = o >>= λ page. within (length digits) (map Some (spelt page))

  pub page-not : {r : (Option ChipNumber)} → r ≡ None → number_request_said r held ≡ number_request (length first) line → None ≡ page_reply (length first) (length digits) line
  page-not k e = ap paged (number-not page_bytes line first held k e)

  pub page-is : (f : Option ℕ) (out : List ℕ) {r : (Option ChipNumber)} {q : ChipNumber} {image page : List ℕ} → r ≡ Some q → number_request_said r held ≡ number_request (length first) line → image ≡ take q.chip.length held → page ≡ page_bytes q.chip.kind image q.number → filled_said f out ≡ filled (map Some (spelt page)) digits → front_said f out ≡ page_reply (length first) (length digits) line
  page-is f out {page = page} k e i p s = front-within (map Some (spelt page)) digits f out s ∙ ap (λ (m : List ℕ). within (length digits) (map Some (spelt m))) p ∙ ap paged (number_is page_bytes line first held k e i)
