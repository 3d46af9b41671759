-- Proof of demand 2: read and rebuilt.
use Rattle.promises.proofs.Names.{◌≡◌, refl, sym, ap, ◌∙◌, subst, Bool, ◌&&◌, List, [], ◌∷◌, ◌++◌, map, ℕ, suc, ◌+◌, ◌-◌, ◌*◌, ◌^◌, ◌≤◌, ◌<◌, arith, leb, length, get_or, take, replicate, length-map, ext_get_or}
use Rattle.promises.proofs.Names.{take-append_seam, length-take-le, get_or-take, le-ltb, Ok, bind-good, Sizes, Bytes, image_sizes, stream_bits, stream_number, image_of, Piece, pack, needed, pack-unique, needed-append}
use Rattle.promises.proofs.Names.{sizes-chip, sums-right, two-views, Pair, Domain, no_pair, no_segment, no_term, Found, Calibration, bare, table_found, curve_found, Contents, contents, nothing, pair_in, pairs_in}
use Rattle.promises.proofs.Names.{segments_in, segment_in, all_terms, term_in, points, segments, terms, zero_if, zero-pack, sheet_pieces, sheet-needed, accepted-at, contents-accepted, CalibrationAt, Summary, domain_in}
use Rattle.promises.proofs.Names.{summary, curve-few, fields-are, accepted-reads, Slot, Sheet, slot, lent, template_in, pairs_lent, Table, listed, by_curve, built_in, build_with, pairs-length, LendableTable, sheet_read}
use Rattle.promises.proofs.Names.{turns, table_read, segments_lent, InDomain, TableReadOff, RebuiltSameBytes, RebuiltFromReads}
use Rattle.promises.specs.Again.{table_of}
use Rattle.promises.proofs.PlannedFields.{LentFrom, Slots, slots-all, slot-first, slots-others}
use Rattle.promises.proofs.ByIndex.{check-holds}
use Rattle.promises.proofs.PlannedSheet.{LentBehind, again, plan-again, zero-behind}

-- ---- what an image reads, as lent

pairs-turned : (pairs : List Pair) → pairs_lent (turns pairs) ≡ pairs
pairs-turned [] = refl
pairs-turned (p ∷ pairs) = ap (λ ps. p ∷ ps) (pairs-turned pairs)

turns-length : (pairs : List Pair) → length (turns pairs) ≡ 2 * length pairs
turns-length [] = refl
turns-length (p ∷ pairs) = omega (arith, turns-length pairs)

read-lent : (sheet : Sheet) (f : ℕ) (xs : List Found) (more : List Slot) → Slots sheet f (map slot (map (λ x. x.value) xs) ++ more) → LentFrom sheet f xs
read-lent sheet f [] more h = tt
read-lent sheet f (x ∷ xs) more h =
    let slots : List Slot = map slot (map (λ y. y.value) xs) ++ more in
    (slot-first sheet f (slot x.value) slots h, read-lent sheet (suc f) xs more (slots-others sheet f (slot x.value) slots h))

-- ---- the image

-- From a sheet and a table with the image's contents.
rebuilt : (kind : ℕ) (image buffer : List ℕ) (z : Sizes) (c : Contents) (sheet : Sheet) (table : Table) → Bytes image → length buffer ≡ length image →
    image_sizes kind (length image) ≡ Ok z → contents kind image ≡ Ok c → stream_number z image < 2 ^ c.bits →
    LentFrom sheet 1 c.fields → template_in sheet ≡ c.template → sheet.end_bit ≡ c.end_bit → LentBehind table c →
    build_with kind buffer sheet c.text table ≡ Ok image
unfolding build_with built_in
rebuilt kind image buffer z c sheet table bytes long hz e zeros lents template end behind =
    let (summed, h) = accepted-at kind image c z e hz in
    let f = h.formed in
    let ps : List Piece = again f sheet table lents template end behind in
    let t : Bool = c.end_bit && leb (needed ps + 7) (stream_bits z) in
    let all : ps ++ zero_if t ≡ sheet_pieces f = zero-behind f sheet table lents template end behind in
    let inside : needed ps ≤ stream_bits z = omega (arith, needed-append ps (zero_if t), ap needed all, sheet-needed f, h.inside) in
    let number : stream_number z image ≡ pack ps =
    pack-unique (stream_number z image) (sheet_pieces f) (subst (λ (n : ℕ). stream_number z image < 2 ^ n) (sym (sheet-needed f)) zeros) h.holds
    ∙ ap pack (sym all) ∙ zero-pack ps t in
    bind-good _ (ap (image_sizes kind) long ∙ hz)
    ∙ bind-good _ (plan-again f sheet table lents template end behind)
    ∙ rw (le-ltb (stream_bits z) (needed ps) inside) (ap (λ (n : ℕ). Ok (image_of z n)) (sym number)
    ∙ ap Ok (two-views z image (sizes-chip kind (length image) z hz).long bytes (sums-right z image summed)))

-- What follows the fields, lent as it is read.
read_behind : (c : Contents) (domain : Domain) (at : ℕ) → CalibrationAt at c.calibration → LentBehind (table_read c domain) c
read_behind c domain at stands = go c.calibration refl stands
  where
    go : (k : Calibration) → c.calibration ≡ k → CalibrationAt at k → LentBehind (table_of c domain k) c
    go bare e h = (
      sym (ap (λ q. map pair_in (pairs_in q)) e),
      omega (arith, ap (λ q. length (map pair_in (pairs_in q))) e),
      ap segments_in e,
      subst (λ q. InDomain (domain_in q) domain) (sym e) tt,
    )
    go (table_found found pairs) e h = (
      pairs-turned (map pair_in pairs) ∙ sym (ap (λ q. map pair_in (pairs_in q)) e),
      turns-length (map pair_in pairs) ∙ ap (λ q. 2 * length (map pair_in (pairs_in q))) (sym e),
      ap segments_in e,
      subst (λ q. InDomain (domain_in q) found) (sym e) refl,
    )
    go (curve_found xs) e h = (
      refl,
      take-append_seam (segments c) (replicate (20 - length (segments c)) no_segment),
      take-append_seam (terms c) (replicate (30 - length (terms c)) no_term),
      omega (arith, ap (λ q. length (map segment_in (segments_in q))) e, length-map xs segment_in, h.some),
    )

pub rebuilt-same-bytes : RebuiltSameBytes
rebuilt-same-bytes kind image buffer level z c domain bytes long hz e zeros =
    rebuilt kind image buffer z c (sheet_read c level) (table_read c domain) bytes long hz e zeros (read-lent (sheet_read c level) 1 c.fields _ (slots-all (sheet_read c level))) refl refl
    (read_behind c domain _ (contents-accepted kind image c e).holding.formed.calibrated)

-- ---- through the calls

lent-from : (sheet : Sheet) (f : ℕ) (xs : List Found) → ((i : ℕ) → i < length xs → lent sheet (f + i) ≡ (get_or xs i nothing).value) → LentFrom sheet f xs
lent-from sheet f [] h = tt
lent-from sheet f (x ∷ xs) h =
    let at : f + 0 ≡ f = omega arith in
    (ap (lent sheet) (sym at) ∙ h 0 (omega arith), lent-from sheet (suc f) xs (λ i l. ap (lent sheet) (omega arith) ∙ h (suc i) (omega arith)))

none_left : {A B : Type 0} (f : A → B) (l : List A) → length (map f l) ≡ 0 → l ≡ []
none_left f [] e = refl
none_left f (x ∷ l) e = absurd (omega arith)

-- What follows the fields, read through the calls.
behind-read : (kind : ℕ) (image : List ℕ) (c : Contents) (s : Summary) (table : Table) → contents kind image ≡ Ok c → summary c ≡ s → LendableTable table → TableReadOff kind image s table → LentBehind table c
behind-read kind image c s (listed domain pts) h g lendable r =
    let l = accepted-reads kind image c h in
    let two : length pts ≡ 2 * length (points c) = omega (arith, r.pairs, ap (λ y. y.points) g) in (
      ext_get_or no_pair (pairs_lent pts) (points c) (pairs-length pts ∙ omega (arith, two))
          (λ i k. r.pair i _ (l.pairs i (omega (arith, pairs-length pts)))),
      two,
      none_left segment_in (segments_in c.calibration) (ap (λ y. y.segments) g ∙ r.none),
      subst (λ y. InDomain y.domain domain) (sym g) r.in_domain,
    )
behind-read kind image c s (by_curve given) h g lendable r =
    let l = accepted-reads kind image c h in
    let few = curve-few _ c.calibration (contents-accepted kind image c h).holding.formed.calibrated in
    let ns = length-map (segments_in c.calibration) segment_in in
    let nt = length-map (all_terms (segments_in c.calibration)) term_in in
    let many : given.count ≡ length (segments c) = r.count ∙ sym (ap (λ y. y.segments) g) in
    let long = length-take-le given.count given.segments (omega (arith, many, ns, few.0, lendable.segments)) in
    let far = length-take-le (length (terms c)) given.terms (omega (arith, nt, few.1, lendable.terms)) in (
      many,
      ext_get_or no_segment (segments_lent given) (segments c) (long ∙ many)
          (λ i k. get_or-take given.count given.segments i no_segment (omega (arith, long)) ∙ r.segment i _ (l.segments i (omega (arith, long, many)))),
      ext_get_or no_term (take (length (terms c)) given.terms) (terms c) far
          (λ i k. get_or-take (length (terms c)) given.terms i no_term (omega (arith, far)) ∙ r.term i _ (l.terms i (omega (arith, far)))),
      omega (arith, r.some, ap (λ y. y.segments) g),
    )

pub rebuilt-from-reads : RebuiltFromReads
rebuilt-from-reads kind image buffer z s sheet text table bytes long hz lendable e r behind zeros =
    let (c, h, g) = check-holds kind image s e in
    let l = accepted-reads kind image c h in
    let written : text ≡ c.text =
    ext_get_or 0 text c.text (r.characters ∙ sym (ap (λ y. y.characters) g))
    (λ i k. r.character i _ (l.characters i (omega (arith, r.characters, ap (λ y. y.characters) g)))) in
    let lents : LentFrom sheet 1 c.fields =
    lent-from sheet 1 c.fields
    (λ i k. r.fields (1 + i) _ (l.fields (1 + i) (omega arith) (omega (arith, fields-are kind image c h))) ∙ ap (λ (n : ℕ). (get_or c.fields n nothing).value) (omega arith)) in
    subst (λ t. build_with kind buffer sheet t table ≡ Ok image) (sym written)
    (rebuilt kind image buffer z c sheet table bytes long hz h (subst (λ y. stream_number z image < 2 ^ y.bits) (sym g) zeros) lents (r.template ∙ sym (ap (λ y. y.template) g)) (r.end_bit ∙ sym (ap (λ y. y.end_bit) g))
    (behind-read kind image c s table h g lendable behind))
