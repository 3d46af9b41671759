-- Laws of an index, and of fields fetched through it.
use Rattle.promises.proofs.Names.{◌≡◌, refl, sym, ap, ◌∙◌, Bool, true, false, cond, List, [], ◌∷◌, ◌++◌, map, ℕ, suc, ◌-◌, ◌≤◌, ◌<◌, arith, dec_lt, eqb, length, drop, map-set_same, Outcome, Ok, Err, ◌>>◌}
use Rattle.promises.proofs.Names.{◌>>=◌, good-same, Sizes, image_sizes, sums, sizes-chip, Layout, last_field, last-most, bits-least, Contents, contents, nothing, field, layout_of, pairs_in, contents-accepted}
use Rattle.promises.proofs.Names.{read_field, fields-end, refused-reads, Value, decode, kept, code_for, may_commit, Entry, field_entry, pair_entry, entries, entry_bytes, entry_at, index, fetch, entry_of, bytes_count}
use Rattle.promises.proofs.Names.{of_pair, lies, entry-rises, index-unread, index_of, index_same, fetch-unsized, fetch-turned, read_back, fetched-own, Alteration, changes, commits, altered, replaced, left, held_by}
use Rattle.promises.proofs.Names.{held, FetchedAsRead, RefusedAlike, IndexSorted, IndexFits, IndexKept, FetchedAfterChanges}
use Rattle.promises.proofs.AfterAlterations.{after-alterations, refused-after}

-- ---- fetched as read

pub fetched-as-read : FetchedAsRead
fetched-as-read kind image buffer made f e =
    let m = index_of kind image buffer made e in
    fetched-own kind image made m.held m.accepted (drop (length (entry_bytes (entries m.held))) buffer) m.is f

pub refused-alike : RefusedAlike
unfolding contents
refused-alike kind image made f r e = go (image_sizes kind (length image)) refl e
  where
    both : contents kind image ≡ Err r → fetch kind image made f ≡ Err r → (fetch kind image made f ≡ Err r) × (read_field kind image f ≡ Err r)
    both c d = (d, (refused-reads kind image r c).field f)

    go : (o : Outcome Sizes) → image_sizes kind (length image) ≡ o → (o >>= λ z. sums z image) ≡ Err r →
        (fetch kind image made f ≡ Err r) × (read_field kind image f ≡ Err r)
    go (Err q) h g = let same : q ≡ r = cc in both (rw h (ap Err same)) (fetch-unsized kind image made f (h ∙ ap Err same))
    go (Ok z) h g = both (rw (h, g)) (fetch-turned kind image made f h g)

-- ---- sorted

pub index-sorted : IndexSorted
index-sorted kind image buffer made c i e h l =
    let m = index_of kind image buffer made h in
    let same : m.held ≡ c = good-same (sym m.accepted ∙ e) in
    let is : made ≡ entry_bytes (entries c) ++ drop (length (entry_bytes (entries c))) buffer =
    m.is ∙ ap (λ d. entry_bytes (entries d) ++ drop (length (entry_bytes (entries d))) buffer) same in
    let back : (j : ℕ) → j < length (entries c) → (entry_at made j).offset ≡ (entry_of (layout_of c) j).offset = λ j k.
    ap (λ (bytes : List ℕ). (entry_at bytes j).offset) is ∙ ap (λ (x : Entry). x.offset) (read_back kind image _ c e j k) in
    omega (
      arith,
      back i (omega arith),
      back (suc i) l,
      entry-rises (layout_of c) i,
      (lies (contents-accepted kind image c e).holding i (omega arith)).some,
    )

-- ---- the bytes of an index

pub index-fits : IndexFits
index-fits kind image c e = go (dec_lt (last_field c.template) (length (entries c)))
  where
    layout : Layout
    layout = layout_of c

    go : Dec (last_field c.template < length (entries c)) → length (entry_bytes (entries c)) ≤ 480
    go (no l) = omega (arith, bytes_count (entries c), last-most c.template)
    go (yes l) =
        let a = contents-accepted kind image c e in
        let i : ℕ = length (entries c) - 1 in
        let chip = sizes-chip kind (length image) a.sizes a.sized in
        let at = of_pair layout i (omega arith) in
        omega (
          arith,
          bytes_count (entries c),
          last-most c.template,
          bits-least c.template layout.precision,
          fields-end layout,
          ap (λ (x : Entry). x.offset) at,
          ap (λ (x : Entry). x.length) at,
          (lies a.holding i (omega arith)).inside,
          chip.few,
          chip.most,
        )

-- ---- after changes and commits

-- A change or a commit keeps rows and places, and so the entries.
module _ (c : Contents) where
  recoded-entries : (f code : ℕ) (v : Value) → entries (replaced c f code v) ≡ entries c
  recoded-entries f code v = ap (λ (es : List Entry). es ++ map pair_entry (pairs_in c.calibration)) (map-set_same field_entry c.fields (f - 1) _ nothing refl)

  change-entries : (f : ℕ) (v : Value) (t : Bool) (o : Outcome ℕ) →
      entries (cond t (left c (o >>= λ code. Ok (replaced c f code (kept (field c f).row v)))) c) ≡ entries c
  change-entries f v false o = refl
  change-entries f v true (Err r) = refl
  change-entries f v true (Ok code) = recoded-entries f code _

  commit-entries : (f new : ℕ) (t : Bool) (o : Outcome (Unit {0})) (d : Outcome Value) →
      entries (cond t (left c (o >> (d >>= λ v. Ok (replaced c f new v)))) c) ≡ entries c
  commit-entries f new false o d = refl
  commit-entries f new true (Err r) d = refl
  commit-entries f new true (Ok u) (Err r) = refl
  commit-entries f new true (Ok u) (Ok v) = recoded-entries f new v

  one-entries : (kind : ℕ) (a : Alteration) → entries (held_by kind c a) ≡ entries c
  one-entries kind (changes ch) = change-entries ch.field ch.value (eqb ch.kind kind) (code_for c ch.level ch.field ch.value)
  one-entries kind (commits co) =
      let x = field c co.field in
      commit-entries co.field co.new (eqb co.kind kind) (may_commit c co.level co.field co.present co.new) (decode x.row x.at co.new)

held-entries : (kind : ℕ) (c : Contents) (alterations : List Alteration) → entries (held kind c alterations) ≡ entries c
held-entries kind c [] = refl
held-entries kind c (a ∷ alterations) = held-entries kind (held_by kind c a) alterations ∙ one-entries c kind a

pub index_kept : IndexKept
index_kept kind image buffer alterations bytes real = go (contents kind image) refl
  where
    go : (o : Outcome Contents) → contents kind image ≡ o → index kind (altered image alterations) buffer ≡ index kind image buffer
    go (Err r) e = index-unread kind (altered image alterations) buffer r (refused-after kind r image alterations e) ∙ sym (index-unread kind image buffer r e)
    go (Ok c) e =
        index_same kind (altered image alterations) image buffer (held kind c alterations) c (after-alterations kind image c alterations bytes real e) e (held-entries kind c alterations)

pub fetched-after-changes : FetchedAfterChanges
fetched-after-changes kind image buffer made alterations f bytes real e =
    fetched-as-read kind (altered image alterations) buffer made f (index_kept kind image buffer alterations bytes real ∙ e)
