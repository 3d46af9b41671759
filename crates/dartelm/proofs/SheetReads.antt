-- Laws of the field reads of an accepted image: they return what its check found.
use Rattle.dartelm.proofs.Names.{◌≡◌, refl, sym, ap, ◌∙◌, List, map, ℕ, zero, suc, ◌+◌, ◌-◌, ◌≤◌, ◌<◌, arith, length, get_or, take, drop, set, length-map, get_or-map, drop-cons, take-length, ne_eqb, le-ltb, Ok}
use Rattle.dartelm.proofs.Names.{Err, Refusal, Contents, Value, Summary, contents, nothing, field, summary, read_field, end_code, DartelmValue, template_flag, by_flags, no_value, struct_by, domain_number, field_reads}
use Rattle.dartelm.proofs.Names.{read_fields, sheet_answer, field_numbers, no_fields, value_in, found_fields}
use Rattle.dartelm.proofs.Filling.{filled, filled_more, filled-whole}

module _ (kind : ℕ) (image : List ℕ) (c : Contents) (e : contents kind image ≡ Ok c) where
  field-read : (f : ℕ) → suc f ≤ length c.fields → read_field kind image (suc f) ≡ Ok (field c (suc f)).value
  unfolding read_field
  field-read f h = rw (e, ne_eqb (suc f) 0 (λ z. omega arith), le-ltb (length c.fields) (suc f) h)

  field-reads : (n f : ℕ) → f + n ≤ length c.fields → field_reads kind image n (suc f) ≡ Ok (map value_in (take n (drop f c.fields)))
  unfolding field_reads
  field-reads zero f h = refl
  field-reads (suc n) f h =
      let first : suc f - 1 ≡ f = omega arith in
      rw (field-read f (omega arith), field-reads n (suc f) (omega arith), drop-cons c.fields f nothing (omega arith), first)

  pub sheet-read : read_fields kind image ≡ Ok (found_fields c)
  unfolding read_fields
  sheet-read = rw (e, field-reads (length c.fields) 0 (omega arith), take-length c.fields)

pub sheet-refused : (kind : ℕ) (image : List ℕ) (r : Refusal) → contents kind image ≡ Err r → read_fields kind image ≡ Err r
unfolding read_fields
sheet-refused kind image r e = rw e

-- ---- the fields of an opened sheet, in order

module _ (c : Contents) where
  pub one_more : (i : ℕ) (array : List DartelmValue) (b : DartelmValue) (v : Value) → i < 21 → i < length c.fields
      → array ≡ filled by_flags 21 no_value (found_fields c).values i → v ≡ (field c (i + 1)).value → b ≡ by_flags v
      → set array i b ≡ filled by_flags 21 no_value (found_fields c).values (i + 1)
  one_more i array b v h k e f g =
      let this : i + 1 - 1 ≡ i = omega arith in
      let held : v ≡ get_or (map value_in c.fields) i (value_in nothing) = rw this at f ∙ sym (get_or-map value_in c.fields i nothing) in
      filled_more by_flags 21 no_value (map value_in c.fields) i b (value_in nothing) array h (rw length-map (omega arith)) e (g ∙ ap by_flags held)

  pub all_told : (i n : ℕ) (array : List DartelmValue) (s : Summary) (flag domain : ℕ) → n ≤ i → n ≡ length c.fields → flag ≡ template_flag s.template → domain ≡ domain_number s.domain
      → array ≡ filled by_flags 21 no_value (found_fields c).values i → s ≡ summary c
      → record {
        number = 0;
        place = 0;
        bits = s.bits;
        points = s.points;
        characters = s.characters;
        field_count = n;
        fields = record { values = array; end_bit = end_code s.end_bit; level = 0; unused = 0; is_resistance = flag };
        domain = domain;
        segments = s.segments;
        terms = s.terms;
      }
      ≡ struct_by sheet_answer field_numbers no_fields (Ok (found_fields c))
  all_told i n array s flag domain h many t d e f =
      let count : n ≡ length (map value_in c.fields) = many ∙ sym (length-map c.fields value_in) in
      rw (t, d, f, filled-whole by_flags 21 no_value (map value_in c.fields) i array (omega arith) e, count)
