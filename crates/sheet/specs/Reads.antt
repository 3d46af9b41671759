-- Document 01, "Turning down": what reads of an accepted image return, and of a refused one.
use Rattle.std.specs.Prelude.{◌≡◌, List, ◌⊎◌, ℕ, ◌≤◌, ◌<◌, get_or}
use Rattle.refusal.specs.declared.Refusal.{Refusal}
use Rattle.refusal.specs.Outcome.{Ok, Err}
use Rattle.refusal.specs.declared.Refusal.TheVariants.{NoSuch}
use Rattle.templates.specs.Calibration.{no_pair}
use Rattle.templates.specs.Curves.{no_segment, no_term}
use Rattle.templates.specs.Lines.{last_field}
use Rattle.layout.specs.Contents.{Contents}
use Rattle.layout.specs.Image.{field, points, segments as segments_of, terms as terms_of}
use Rattle.sheet.specs.declared.Summary.{Summary}
use Rattle.sheet.specs.Check.{read_field, read_pair, read_character, read_segment, read_term}

-- Fields are read by number from 1; pairs, characters, segments and terms
-- by index from 0, as many as the check gives. Any other number is 8.
pub record ReadsEach (kind : ℕ) (image : List ℕ) (s : Summary) (c : Contents) : Type 0 where
  pub fields : (f : ℕ) → 1 ≤ f → f ≤ last_field c.template → read_field kind image f ≡ Ok (field c f).value
  pub no_field : (f : ℕ) → (f < 1) ⊎ (last_field c.template < f) → read_field kind image f ≡ Err (NoSuch f)
  pub pairs : (i : ℕ) → i < s.points → read_pair kind image i ≡ Ok (get_or (points c) i no_pair)
  pub no_pairs : (i : ℕ) → s.points ≤ i → read_pair kind image i ≡ Err (NoSuch i)
  pub characters : (i : ℕ) → i < s.characters → read_character kind image i ≡ Ok (get_or c.text i 0)
  pub no_character : (i : ℕ) → s.characters ≤ i → read_character kind image i ≡ Err (NoSuch i)
  pub segments : (i : ℕ) → i < s.segments → read_segment kind image i ≡ Ok (get_or (segments_of c) i no_segment)
  pub no_segments : (i : ℕ) → s.segments ≤ i → read_segment kind image i ≡ Err (NoSuch i)
  pub terms : (i : ℕ) → i < s.terms → read_term kind image i ≡ Ok (get_or (terms_of c) i no_term)
  pub no_terms : (i : ℕ) → s.terms ≤ i → read_term kind image i ≡ Err (NoSuch i)

-- Each read of a refused image gives the check's refusal.
pub record ReadsNone (kind : ℕ) (image : List ℕ) (r : Refusal) : Type 0 where
  pub field : (f : ℕ) → read_field kind image f ≡ Err r
  pub pair : (i : ℕ) → read_pair kind image i ≡ Err r
  pub character : (i : ℕ) → read_character kind image i ≡ Err r
  pub segment : (i : ℕ) → read_segment kind image i ≡ Err r
  pub term : (i : ℕ) → read_term kind image i ≡ Err r
