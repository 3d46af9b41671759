-- Laws of the loop over the entries of a template's own fields: its state, and one turn.
use Rattle.index.proofs.Names.{◌≡◌, refl, sym, ap, ◌∙◌, List, ℕ, ◌+◌, ◌*◌, ◌≤◌, ◌<◌, arith, length, Row, Cursor, Layout, basic, lines_of, last_field, bits_before, row_of, place-few, basic-most}
use Rattle.index.proofs.Names.{entry, entry_bytes, laid, first_entries, [], ◌∷◌, ◌^◌}
use Rattle.index.proofs.Laying.{laid-length, first_more}
use Rattle.index.proofs.EntryLaws.{field_next, own-entry, own_first}

-- The entries before field i + 1 are in the buffer, and the cursor is at that field.
pub record JudgedUpTo (layout : Layout) (before : List ℕ) (i : ℕ) (cursor : Cursor) (buffer : List ℕ) : Type 0 where
  pub low : length basic ≤ i
  pub high : i ≤ last_field layout.template
  pub long : length buffer ≡ length before
  pub place : cursor.at ≡ bits_before (lines_of layout.template) layout.precision i + 10
  pub is : buffer ≡ laid before 0 (entry_bytes (first_entries layout i))

module _ (layout : Layout) {before : List ℕ} where
  pub own-begun : {n : ℕ} → n ≡ length basic → before ≡ laid before 0 (entry_bytes (first_entries layout (length basic))) → JudgedUpTo layout before n (record { at = 74 }) before
  own-begun e begun = record {
    low = omega (arith, e);
    high = omega (arith, e, basic-most layout.template);
    long = refl;
    place = own_first layout e;
    is = begun ∙ ap (λ (k : ℕ). laid before 0 (entry_bytes (first_entries layout k))) (sym e);
  }

  module _ {i : ℕ} {cursor : Cursor} {buffer : List ℕ} (h : JudgedUpTo layout before i cursor buffer) where
    -- The loop is past the last field.
    pub own-ended : {last : ℕ} → last ≡ last_field layout.template → last ≤ i → buffer ≡ laid before 0 (entry_bytes (first_entries layout (last_field layout.template)))
    own-ended e l =
        let n : i ≡ last_field layout.template = omega (arith, h.high) in
        h.is ∙ ap (λ (k : ℕ). laid before 0 (entry_bytes (first_entries layout k))) n

    module _ {row : Row} {last : ℕ} (e : last ≡ last_field layout.template) (l : i < last) (r : row ≡ row_of layout (i + 1)) where
      pub own-few : cursor.at + row.width < 2 * 2 ^ 16
      own-few = omega (arith, h.place, field_next layout i (omega arith) r, place-few layout (i + 1))

      -- One more entry is written.
      pub own-next : {next : Cursor} {after : List ℕ} → 4 * i + 4 ≤ length before → next.at ≡ cursor.at + row.width →
          after ≡ laid buffer (4 * i) (entry_bytes (entry cursor.at row.width ∷ [])) → JudgedUpTo layout before (i + 1) next after
      own-next {next} inside at step = record {
        low = omega (arith, h.low);
        high = omega arith;
        long = ap length step ∙ laid-length buffer (4 * i) (entry_bytes (entry cursor.at row.width ∷ [])) (omega (arith, h.long)) ∙ h.long;
        place = omega (arith, at, h.place, field_next layout i (omega arith) r);
        is = first_more layout before i (omega arith) h.is (own-entry layout i h.low (omega arith) r h.place) step;
      }
