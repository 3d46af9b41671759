-- Laws of an accepted check: the image's sizes and sums, the
-- sheet that the format allows, and that its stream holds it.
use Rattle.layout.proofs.Names.{◌≡◌, sym, ap, ◌∙◌, subst, List, [], ◌∷◌, ◌++◌, map, append_assoc, ℕ, ◌+◌, ◌^◌, ◌≤◌, ◌<◌, ◌%◌, arith, length, Outcome, Ok, good-same, good-bind, good-then, Sizes, bit, field_at}
use Rattle.layout.proofs.Names.{image_sizes, sums, stream_bits, stream_number, image_of, Piece, piece, needed, sizes-chip, field-bit, image-length, image-number-lt, image-passes, Fit, Holds, needed-append}
use Rattle.layout.proofs.Names.{holds-piece, number_of, Stream, Parsed, parse, Contents, sheet_of, stream_in, contents, first_number}
use Rattle.refusal.specs.Outcome.{◌>>=◌, ◌>>◌}
use Rattle.layout.proofs.Formats.{parsed, parses-fit, parse-held, parsed-by, parse-agrees}
use Rattle.layout.proofs.Fields.{piece_of}
use Rattle.layout.proofs.Places.{basic-is-64}
use Rattle.layout.proofs.Sheets.{Formed, rest_pieces, sheet_pieces, sheet-needed, sheet-parses, sheet-formed}

-- ---- the stream

pub record Holding (s : Stream) (c : Contents) : Type 0 where
  pub formed : Formed s.bits c
  pub holds : Holds s.number 0 (sheet_pieces formed)
  pub inside : c.bits ≤ s.bits

pub holding-fit : {s : Stream} {c : Contents} (h : Holding s c) → Fit (sheet_pieces h.formed)
holding-fit {s} {c} h = parses-fit s.bits sheet_of 0 (sheet_pieces h.formed) c (sheet-parses h.formed)

pub parsed-holding : (s : Stream) (x : Parsed Contents) → parse s sheet_of 0 ≡ Ok x → Holding s x.found
parsed-holding s x e =
    let w = parsed-by s sheet_of 0 x (omega arith) e in
    let (f, p) = sheet-formed s.bits w.pieces x.found w.parses in
    record {
      formed = f;
      holds = subst (Holds s.number 0) (sym p) w.holds;
      inside = omega (arith, sheet-needed f, ap needed p, w.behind, w.inside);
    }

pub holding-parsed : (s : Stream) (c : Contents) → Holding s c → parse s sheet_of 0 ≡ Ok (parsed c c.bits)
holding-parsed s c h =
    parse-held s sheet_of 0 (sheet_pieces h.formed) c (sheet-parses h.formed) h.holds (omega (arith, sheet-needed h.formed, h.inside))
    ∙ ap (λ (n : ℕ). Ok (parsed c n)) (omega (arith, sheet-needed h.formed))

-- The first selector is 0, at bit 64.
pub selector-zero : {s : Stream} {c : Contents} → Holding s c → bit s.number 64 ≡ 0
selector-zero {s} {c} h =
    let selector = holds-piece s.number 0 (map piece_of h.formed.basics) (piece 2 0) _ (holding-fit h) h.holds in
    let at : 64 ≡ 0 + needed (map piece_of h.formed.basics) = omega (arith, basic-is-64 h.formed) in
    let none : field_at s.number 64 2 ≡ 0 = ap (λ (n : ℕ). field_at s.number n 2) at ∙ selector in
    sym (field-bit s.number 64 2 0 (omega arith)) ∙ ap (λ (n : ℕ). bit n 0) none

-- The first template's number is right after the selector.
pub number-stands : {s : Stream} {c : Contents} → Holding s c → field_at s.number first_number 8 ≡ number_of c.template
number-stands {s} {c} h =
    let f = h.formed in
    let number : Piece = piece 8 (number_of c.template) in
    let before : List Piece = map piece_of f.basics ++ (piece 2 0 ∷ []) in
    let after : List Piece = map piece_of f.own ++ rest_pieces s.bits f.end_at c in
    let e : sheet_pieces f ≡ before ++ (number ∷ after) = simp append_assoc in
    let at : first_number ≡ 0 + needed before = omega (arith, basic-is-64 f, needed-append (map piece_of f.basics) (piece 2 0 ∷ [])) in
    ap (λ (n : ℕ). field_at s.number n 8) at
    ∙ holds-piece s.number 0 before number after (subst Fit e (holding-fit h)) (subst (Holds s.number 0) e h.holds)

-- ---- the image

pub record Accepted (kind : ℕ) (image : List ℕ) (c : Contents) : Type 0 where
  pub sizes : Sizes
  pub sized : image_sizes kind (length image) ≡ Ok sizes
  pub summed : sums sizes image ≡ Ok tt
  pub holding : Holding (stream_in sizes image) c

pub contents-accepted : (kind : ℕ) (image : List ℕ) (c : Contents) → contents kind image ≡ Ok c → Accepted kind image c
unfolding contents
contents-accepted kind image c e =
    let read : Sizes → Outcome Contents = λ z. parse (stream_in z image) sheet_of 0 >>= λ x. Ok x.found in
    let a = good-bind (image_sizes kind (length image)) (λ z. sums z image >> read z) c e in
    let z : Sizes = a.0 in
    let b = good-then (sums z image) (read z) c a.2 in
    let r = good-bind (parse (stream_in z image) sheet_of 0) (λ x. Ok x.found) c b.1 in
    record {
      sizes = z;
      sized = a.1;
      summed = b.0;
      holding = subst (Holding (stream_in z image)) (good-same r.2) (parsed-holding (stream_in z image) r.0 r.1);
    }

pub accepted-contents : (kind : ℕ) (image : List ℕ) (c : Contents) → Accepted kind image c → contents kind image ≡ Ok c
unfolding contents
accepted-contents kind image c h = rw (h.sized, h.summed, holding-parsed (stream_in h.sizes image) c h.holding)

-- The image of a stream that holds a sheet is accepted.
-- It is not blank, since its first selector is 0.
pub written-contents : (kind bytes : ℕ) (z : Sizes) (N : ℕ) (c : Contents) → image_sizes kind bytes ≡ Ok z → N < 2 ^ stream_bits z →
    Holding (record { bits = stream_bits z; number = N }) c → contents kind (image_of z N) ≡ Ok c
written-contents kind bytes z N c sizes small holding =
    let chip = sizes-chip kind bytes z sizes in
    accepted-contents kind (image_of z N) c (record {
      sizes = z;
      sized = ap (image_sizes kind) (image-length z N ∙ sym chip.long) ∙ sizes;
      summed = image-passes z bytes chip N small (selector-zero holding);
      holding = subst (λ (n : ℕ). Holding (record { bits = stream_bits z; number = n }) c) (sym (image-number-lt z N small)) holding;
    })

-- The image of a stream that holds a sheet is accepted, at known sizes.
pub accepted-at : (kind : ℕ) (image : List ℕ) (c : Contents) (z : Sizes) → contents kind image ≡ Ok c → image_sizes kind (length image) ≡ Ok z →
    (sums z image ≡ Ok tt) × Holding (stream_in z image) c
accepted-at kind image c z e hz =
    let a = contents-accepted kind image c e in
    subst (λ u. (sums u image ≡ Ok tt) × Holding (stream_in u image) c) (good-same (sym a.sized ∙ hz)) (a.summed, a.holding)

-- "Bits after the end are not judged". So an image of the same kind that passes the page
-- test, and whose stream agrees with an accepted one up to its end, has the same contents.
pub agree : (kind : ℕ) (image other : List ℕ) (z : Sizes) (c : Contents) → image_sizes kind (length image) ≡ Ok z → contents kind image ≡ Ok c →
    image_sizes kind (length other) ≡ Ok z → sums z other ≡ Ok tt →
    stream_number z image % 2 ^ c.bits ≡ stream_number z other % 2 ^ c.bits → contents kind other ≡ Ok c
unfolding contents
agree kind image other z c hz e ho hs same =
    let accepted = holding-parsed (stream_in z image) c (accepted-at kind image c z e hz).1 in
    rw (ho, hs, parse-agrees (stream_in z image) (stream_number z other) sheet_of 0 (parsed c c.bits) (omega arith) accepted same)
