-- Laws of a made index: for an accepted image, and for a refused one.
use Rattle.index.proofs.Names.{◌≡◌, sym, ap, ◌∙◌, List, ◌++◌, ℕ, ◌+◌, ◌-◌, ◌*◌, ◌^◌, ◌≤◌, ◌<◌, arith, dec_lt, ltb, length, drop, length-map, lt-ltb, le-ltb, Refusal, Outcome, Ok, Err, ◌>>◌, ◌>>=◌, refuse◌if◌}
use Rattle.index.proofs.Names.{ShortIndex, good-same, good-bind, passed, sizes-chip, last_field, Contents, contents, layout_of, pairs_in, pair_in, Opened, Opens, last-most, layout_is, points-are, holding, Entry}
use Rattle.index.proofs.Names.{entry_bytes, entries, index, laid, first_entries}
use Rattle.index.proofs.Laying.{laid-start, bytes_count}
use Rattle.index.proofs.EntryLaws.{of_pair, entries-count, lies, entries-are}

pub index-unread : (kind : ℕ) (image buffer : List ℕ) (r : Refusal) → contents kind image ≡ Err r → index kind image buffer ≡ Err r
unfolding index
index-unread kind image buffer r e = rw e

module _ (kind : ℕ) (image buffer : List ℕ) (c : Contents) (e : contents kind image ≡ Ok c) where
  pub index_short : length buffer < 4 * length (entries c) → index kind image buffer ≡ Err (ShortIndex (4 * length (entries c)))
  unfolding index
  index_short h = rw (e, bytes_count (entries c), lt-ltb (length buffer) (4 * length (entries c)) h)

  pub index-made : 4 * length (entries c) ≤ length buffer → index kind image buffer ≡ Ok (laid buffer 0 (entry_bytes (entries c)))
  unfolding index
  index-made h =
      let t = le-ltb (length buffer) (length (entry_bytes (entries c))) (omega (arith, bytes_count (entries c))) in
      rw (e, t) (ap Ok (sym (laid-start buffer (entry_bytes (entries c)))))

-- What an index was made of: the sheet of the image, its entries, and then what the buffer held.
pub record Made (kind : ℕ) (image buffer made : List ℕ) : Type 0 where
  pub held : Contents
  pub accepted : contents kind image ≡ Ok held
  pub is : made ≡ entry_bytes (entries held) ++ drop (length (entry_bytes (entries held))) buffer

pub index_of : (kind : ℕ) (image buffer made : List ℕ) → index kind image buffer ≡ Ok made → Made kind image buffer made
unfolding index
index_of kind image buffer made e =
    let (c, h, f) = good-bind (contents kind image) _ made e in
    let bytes : List ℕ = entry_bytes (entries c) in
    let (t, g) = passed (ShortIndex (length bytes)) (ltb (length buffer) (length bytes)) (Ok (bytes ++ drop (length bytes) buffer)) made f in
    record { held = c; accepted = h; is = sym (good-same g) }

-- The index depends only on the entries.
pub index_same : (kind : ℕ) (image other buffer : List ℕ) (c d : Contents) → contents kind image ≡ Ok c → contents kind other ≡ Ok d → entries c ≡ entries d →
    index kind image buffer ≡ index kind other buffer
unfolding index
index_same kind image other buffer c d e f same =
    let ending : List Entry → Outcome (List ℕ) = λ es.
    (refuse ShortIndex (length (entry_bytes es)) if ltb (length buffer) (length (entry_bytes es))) >> Ok (entry_bytes es ++ drop (length (entry_bytes es)) buffer) in
    ap (λ o. o >>= λ x. ending (entries x)) e ∙ ap ending same ∙ sym (ap (λ o. o >>= λ x. ending (entries x)) f)

-- ---- of an opened sheet, whose template has this many fields

module _ {kind : ℕ} {image : List ℕ} {o : Opened} {c : Contents} (h : Opens kind image o c) {last : ℕ} (fields : last ≡ last_field o.layout.template) where
  abbrev count : ℕ
  count = last + o.summary.points

  counted : count ≡ length (entries c)
  counted = omega (arith, entries-count (holding h), ap (λ l. last_field l.template) (layout_is h), points-are h, length-map (pairs_in c.calibration) pair_in)

  -- A stream holds few points.
  pub opened-few : count < 2 ^ 32
  opened-few = go (dec_lt (last_field c.template) (length (entries c)))
    where
      go : Dec (last_field c.template < length (entries c)) → count < 2 ^ 32
      go (no l) = omega (arith, counted, last-most c.template)
      go (yes l) =
          let i : ℕ = length (entries c) - 1 in
          omega (
            arith,
            counted,
            last-most c.template,
            ap (λ x. x.offset) (of_pair (layout_of c) i (omega arith)),
            (lies (holding h) i (omega arith)).inside,
            (sizes-chip kind (length image) o.sizes h.sized).most,
          )

  pub opened-made : (buffer : List ℕ) → 4 * count ≤ length buffer → index kind image buffer ≡ Ok (laid buffer 0 (entry_bytes (first_entries o.layout count)))
  opened-made buffer k =
      index-made kind image buffer c h.accepted (omega (arith, counted))
      ∙ ap (λ es. Ok (laid buffer 0 (entry_bytes es)))
      (entries-are (holding h) ∙ ap (λ l. first_entries l (length (entries c))) (sym (layout_is h)) ∙ ap (first_entries o.layout) (sym counted))

  pub opened-short : (buffer : List ℕ) → length buffer < 4 * count → index kind image buffer ≡ Err (ShortIndex (4 * count))
  opened-short buffer k =
      index_short kind image buffer c h.accepted (omega (arith, counted)) ∙ ap (λ (m : ℕ). Err (ShortIndex (4 * m))) (sym counted)
