-- Laws of the reads of an accepted image, and of their refusals.
use Rattle.sheet.proofs.Names.{◌≡◌, List, ⊎_elim, ℕ, ◌≤◌, ◌<◌, arith, length, get_or, eq-eqb, ne_eqb, lt-ltb, le-ltb, le-leb, lt-leb, Refusal, Ok, Err, NoSuch, no_pair, no_segment, no_term, last_field}
use Rattle.sheet.proofs.Names.{Contents, contents, points, fields-count, contents-accepted, summary, check, indexed, read_field, read_pair, read_character, read_segment, read_term, ReadsEach, ReadsNone}
use Rattle.layout.specs.Image.{segments as segments_of, terms as terms_of}

-- The item of an index, and an index past the last.
module _ {A : Type 0} (items : List A) (none : A) (i : ℕ) where
  indexed-good : i < length items → indexed items none i ≡ Ok (get_or items i none)
  indexed-good h = rw (lt-leb (length items) i h)

  indexed-none : length items ≤ i → indexed items none i ≡ Err (NoSuch i)
  indexed-none h = rw (le-leb (length items) i h)

module _ (kind : ℕ) (image : List ℕ) (c : Contents) (e : contents kind image ≡ Ok c) where
  -- An accepted image has all fields of its template.
  pub fields-are : length c.fields ≡ last_field c.template
  fields-are = fields-count (contents-accepted kind image c e).holding.formed

  pub accepted-checked : check kind image ≡ Ok (summary c)
  unfolding check
  accepted-checked = rw e

  -- Every field, pair, character, segment and term is read, and no other.
  pub accepted-reads : ReadsEach kind image (summary c) c
  unfolding read_field read_pair read_character read_segment read_term
  accepted-reads = record {
    fields = λ f lo hi. rw (e, fields-are, ne_eqb f 0 (λ z. omega arith), le-ltb (last_field c.template) f hi);
    no_field = λ f.
        ⊎_elim
        (λ l. let z : ◌≡◌ {A = ℕ} f 0 = omega arith in rw (e, eq-eqb f 0 z))
        (λ h. rw (e, fields-are, ne_eqb f 0 (λ z. omega arith), lt-ltb (last_field c.template) f h));
    pairs = λ i h. rw e (indexed-good (points c) no_pair i h);
    no_pairs = λ i h. rw e (indexed-none (points c) no_pair i h);
    characters = λ i h. rw e (indexed-good c.text 0 i h);
    no_character = λ i h. rw e (indexed-none c.text 0 i h);
    segments = λ i h. rw e (indexed-good (segments_of c) no_segment i h);
    no_segments = λ i h. rw e (indexed-none (segments_of c) no_segment i h);
    terms = λ i h. rw e (indexed-good (terms_of c) no_term i h);
    no_terms = λ i h. rw e (indexed-none (terms_of c) no_term i h);
  }

-- Nothing is read of a refused image.
pub refused-checked : (kind : ℕ) (image : List ℕ) (r : Refusal) → contents kind image ≡ Err r → check kind image ≡ Err r
unfolding check
refused-checked kind image r e = rw e

pub refused-reads : (kind : ℕ) (image : List ℕ) (r : Refusal) → contents kind image ≡ Err r → ReadsNone kind image r
unfolding read_field read_pair read_character read_segment read_term
refused-reads kind image r e = record { field = λ f. rw e; pair = λ i. rw e; character = λ i. rw e; segment = λ i. rw e; term = λ i. rw e }
