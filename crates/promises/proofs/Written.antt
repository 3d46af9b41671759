-- Proof of demand 2: written and read again.
use Rattle.promises.proofs.Names.{◌≡◌, refl, sym, ap, ap₂, ◌∙◌, subst, Bool, true, false, ◌&&◌, cond, List, [], ◌∷◌, ◌++◌, map, ℕ, zero, suc, ◌+◌, ◌-◌, ◌^◌, ◌≤◌, ◌<◌, lt_of_lt_of_le, arith, leb, ltb, length}
use Rattle.promises.proofs.Names.{pow_mono, leb-true, ltb-false, Ok, TooLong, good-same, good-bind, passed, Sizes, image_sizes, stream_bits, image_of, Piece, pack, needed, Holds, pack-lt, holds-pack}
use Rattle.promises.proofs.Names.{last-most, kept, Real, Found, Contents, sheet_of, contents, parses-fit, zero_if, zero-needed, zero-pack, Formed, sheet_pieces, sheet-needed, sheet-parses, fields-count, fields-rows}
use Rattle.promises.proofs.Names.{written-contents, Slot, Sheet, Table, plan, as_far_as_64_bits, built_in, build_with, AllReal, Lendable, LendableTable, kept_all, SameSheet, WrittenAndReadAgain, ZeroEndsText}
use Rattle.promises.proofs.PlannedFields.{KeptFrom, value_at, Slots, slots-all, slot-first, slots-others}
use Rattle.promises.proofs.PlannedSheet.{plan-stands}

-- ---- the zero that ends a text is inside the stream

zero-inside : (n S : ℕ) (b : Bool) → n ≤ S → n + cond (b && leb (n + 7) S) 7 0 ≤ S
zero-inside n S false h = omega arith
zero-inside n S true h = go (leb (n + 7) S) refl
  where
    go : (t : Bool) → leb (n + 7) S ≡ t → n + cond t 7 0 ≤ S
    go true e = leb-true (n + 7) S e
    go false e = omega arith

-- ---- the lent values

pub real-at : (slots : List Slot) → AllReal slots → (i : ℕ) → Real (value_at slots i)
real-at [] h i = tt
real-at (s ∷ slots) h zero = h.0
real-at (s ∷ slots) h (suc i) = real-at slots h.1 i

kept-values : (sheet : Sheet) (f : ℕ) (xs : List Found) (slots : List Slot) → Slots sheet f slots → length xs ≤ length slots →
    KeptFrom sheet f xs → map (λ x. x.value) xs ≡ kept_all (map (λ x. x.row) xs) slots
kept-values sheet f [] slots h few k = refl
kept-values sheet f (x ∷ xs) [] h few k = absurd (omega arith)
kept-values sheet f (x ∷ xs) (s ∷ slots) h few k =
    ap₂ (λ v vs. v ∷ vs) (k.0 ∙ ap (kept x.row) (slot-first sheet f s slots h))
    (kept-values sheet (suc f) xs slots (slots-others sheet f s slots h) (omega arith) k.1)

-- ---- a build's parts

pub record Built (kind : ℕ) (buffer : List ℕ) (sheet : Sheet) (text : List ℕ) (table : Table) (image : List ℕ) : Type 0 where
  pub sizes : Sizes
  pub pieces : List Piece
  pub fitting : image_sizes kind (length buffer) ≡ Ok sizes
  pub plans : plan sheet text table ≡ Ok pieces
  pub inside : needed pieces ≤ stream_bits sizes
  pub made : image_of sizes (pack pieces) ≡ image

pub built : (kind : ℕ) (buffer : List ℕ) (sheet : Sheet) (text : List ℕ) (table : Table) (image : List ℕ) →
    build_with kind buffer sheet text table ≡ Ok image → Built kind buffer sheet text table image
unfolding build_with built_in
built kind buffer sheet text table image e =
    let (z, e1, e2) = good-bind (image_sizes kind (length buffer)) _ image e in
    let (pieces, e3, e4) = good-bind (plan sheet text table) _ image e2 in
    let (t, e5) = passed (TooLong (as_far_as_64_bits (needed pieces))) (ltb (stream_bits z) (needed pieces)) _ image e4 in
    record { sizes = z; pieces = pieces; fitting = e1; plans = e3; inside = ltb-false (stream_bits z) (needed pieces) t; made = cc }

-- ---- the image of a plan has the planned contents

image-contents : (kind bytes : ℕ) (z : Sizes) (pieces : List Piece) (t : Bool) (c : Contents) (f : Formed (stream_bits z) c) → image_sizes kind bytes ≡ Ok z →
    sheet_pieces f ≡ pieces ++ zero_if t → needed (pieces ++ zero_if t) ≤ stream_bits z → contents kind (image_of z (pack pieces)) ≡ Ok c
image-contents kind bytes z pieces t c f sizes same inside =
    let N : ℕ = pack pieces in
    let all : List Piece = sheet_pieces f in
    let fit = parses-fit (stream_bits z) sheet_of 0 all c (sheet-parses f) in
    let packed : pack all ≡ N = ap pack same ∙ zero-pack pieces t in
    let small : N < 2 ^ stream_bits z =
    subst (λ (n : ℕ). n < 2 ^ stream_bits z) packed (lt_of_lt_of_le (pack-lt all fit) (pow_mono (subst (λ q. needed q ≤ stream_bits z) (sym same) inside))) in
    written-contents kind bytes z N c sizes small (record {
      formed = f;
      holds = subst (λ (n : ℕ). Holds n 0 all) packed (holds-pack all fit);
      inside = omega (arith, sheet-needed f, ap needed same, inside);
    })

-- The contents that a check of a built image finds.
record ReadAgain (sheet : Sheet) (text : List ℕ) (table : Table) (z : Sizes) (pieces : List Piece) (kind : ℕ) (image : List ℕ) : Type 0 where
  found : Contents
  reads : contents kind image ≡ Ok found
  same : SameSheet sheet text table found
  bits : found.bits ≡ needed pieces + cond (sheet.end_bit && leb (needed pieces + 7) (stream_bits z)) 7 0

read_again : (kind : ℕ) (buffer : List ℕ) (sheet : Sheet) (text : List ℕ) (table : Table) (z : Sizes) (pieces : List Piece) → Lendable sheet → LendableTable table →
    image_sizes kind (length buffer) ≡ Ok z → plan sheet text table ≡ Ok pieces → needed pieces ≤ stream_bits z →
    ReadAgain sheet text table z pieces kind (image_of z (pack pieces))
read_again kind buffer sheet text table z pieces lendable behind sizes plans inside =
    let S : ℕ = stream_bits z in
    let t : Bool = sheet.end_bit && leb (needed pieces + 7) S in
    let p = plan-stands S sheet text table pieces (λ f. real-at sheet.fields lendable.singles (f - 1)) behind plans inside in
    let c : Contents = p.contents in
    let few : length c.fields ≤ length sheet.fields = omega (arith, fields-count p.formed, last-most c.template, lendable.fields) in
    record {
      found = c;
      reads =
          image-contents kind (length buffer) z pieces t c p.formed sizes p.pieces_are
          (omega (arith, zero-needed pieces t, zero-inside (needed pieces) S sheet.end_bit inside));
      same = record {
        same_template = p.same_template;
        same_fields = kept-values sheet 1 c.fields sheet.fields (slots-all sheet) few p.keeps_fields ∙ ap (λ rs. kept_all rs sheet.fields) (fields-rows p.formed);
        same_points = p.keeps_points;
        same_domain = p.keeps_domain;
        same_segments = p.keeps_segments;
        same_terms = p.keeps_terms;
        same_end = p.same_end;
        same_text = p.same_text;
      };
      bits = omega (arith, sheet-needed p.formed, ap needed p.pieces_are, zero-needed pieces t);
    }

pub written-and-read-again : WrittenAndReadAgain
written-and-read-again kind buffer sheet text table image lendable behind e =
    let b = built kind buffer sheet text table image e in
    let r = read_again kind buffer sheet text table b.sizes b.pieces lendable behind b.fitting b.plans b.inside in
    (r.found, ap (contents kind) (sym b.made) ∙ r.reads, r.same)

pub written-bits : ZeroEndsText
written-bits kind buffer sheet text table image z pieces c lendable behind sizes plans e reads =
    let b = built kind buffer sheet text table image e in
    let r = read_again kind buffer sheet text table b.sizes b.pieces lendable behind b.fitting b.plans b.inside in
    let same : r.found ≡ c = good-same (sym r.reads ∙ ap (contents kind) b.made ∙ reads) in
    ap (λ x. x.bits) (sym same) ∙ r.bits
    ∙ ap₂ (λ ps y. needed ps + cond (sheet.end_bit && leb (needed ps + 7) (stream_bits y)) 7 0)
    (good-same (sym b.plans ∙ plans)) (good-same (sym b.fitting ∙ sizes))
