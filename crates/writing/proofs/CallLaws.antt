-- Laws of an accepted call and its images.
use Rattle.writing.proofs.Names.{◌≡◌, sym, ◌∙◌, not, List, ℕ, zero, suc, ◌%◌, ◌≤◌, arith, eqb, length, Refusal, Ok, Err, WrongImage, good-same, no_value_lem, good-bind, passed, bind-good, bind-refused, Sizes}
use Rattle.writing.proofs.Names.{sizes_of, image_bytes, image_sizes, SumsRight, sizes-chip, sums-right, Contents, contents, contents-accepted, Summary, check, summary, Step, step, next_row, Fits}

-- A kind has one size.
kind-sizes : (kind bytes : ℕ) (z : Sizes) → image_sizes kind bytes ≡ Ok z → sizes_of kind ≡ Ok z
unfolding image_sizes
kind-sizes kind bytes z e =
    let (x, first, others) = good-bind (sizes_of kind) _ z e in
    let (long, same) = passed WrongImage (not (eqb bytes (image_bytes x))) (Ok x) z others in
    first ∙ same

-- A register is a row, or none.
kind-whole : (kind : ℕ) (z : Sizes) → sizes_of kind ≡ Ok z → z.register % 8 ≡ 0
kind-whole zero z e = rw (← good-same e)
kind-whole (suc zero) z e = rw (← good-same e)
kind-whole (suc (suc zero)) z e = rw (← good-same e)
kind-whole (suc (suc (suc k))) z e = no_value_lem e

-- Kinds 1 and 2 have two pages or more.
pub kind-pages : (kind bytes : ℕ) (z : Sizes) → image_sizes kind bytes ≡ Ok z → 1 ≤ kind → 2 ≤ z.pages
kind-pages kind bytes z e some = go kind (kind-sizes kind bytes z e) some
  where
    go : (k : ℕ) → sizes_of k ≡ Ok z → 1 ≤ k → 2 ≤ z.pages
    go zero d h = absurd (omega arith)
    go (suc zero) d h = rw (← good-same d) (omega arith)
    go (suc (suc zero)) d h = rw (← good-same d) (omega arith)
    go (suc (suc (suc k))) d h = no_value_lem d

-- What follows from an accepted check and the sizes of the chip's image.
pub record Asked (z : Sizes) (present wanted : List ℕ) : Type 0 where
  pub fits : Fits z present wanted
  pub right : SumsRight z wanted

module _ (kind : ℕ) (present wanted : List ℕ) (s : Summary) (z : Sizes) (accepted : check kind wanted ≡ Ok s) (held : image_sizes kind (length present) ≡ Ok z) where
  read : (c : Contents) × (contents kind wanted ≡ Ok c)
  unfolding check
  read = let (c, e, d) = good-bind (contents kind wanted) (λ c. Ok (summary c)) s accepted in (c, e)

  pub checked-asked : Asked z present wanted
  checked-asked =
      let a = contents-accepted kind wanted read.0 read.1 in
      let one : a.sizes ≡ z = good-same (sym (kind-sizes kind (length wanted) a.sizes a.sized) ∙ kind-sizes kind (length present) z held) in
      let chip = sizes-chip kind (length present) z held in
      let wide = sizes-chip kind (length wanted) z (rw one at a.sized) in
      record {
        fits = record {
          held = chip.long;
          asked = wide.long;
          paged = chip.paged;
          few = chip.few;
          most = chip.most;
          whole = kind-whole kind z (kind-sizes kind (length present) z held);
        };
        right = sums-right z wanted (rw one at a.summed);
      }

-- An accepted call: its sizes and its step.
pub record Called (kind : ℕ) (present wanted : List ℕ) (x : Step) : Type 0 where
  pub sizes : Sizes
  pub shown : Summary
  pub accepted : check kind wanted ≡ Ok shown
  pub sized : image_sizes kind (length present) ≡ Ok sizes
  pub asked : Asked sizes present wanted
  pub is : step sizes present wanted ≡ x

pub called : (kind : ℕ) (present wanted : List ℕ) (x : Step) → next_row kind present wanted ≡ Ok x → Called kind present wanted x
unfolding next_row
called kind present wanted x e =
    let (s, accepted, t) = good-bind (check kind wanted) _ x e in
    let (z, sized, u) = good-bind (image_sizes kind (length present)) _ x t in
    record { sizes = z; shown = s; accepted = accepted; sized = sized; asked = checked-asked kind present wanted s z accepted sized; is = good-same u }

pub calls : (kind : ℕ) (present wanted : List ℕ) (s : Summary) (z : Sizes) → check kind wanted ≡ Ok s → image_sizes kind (length present) ≡ Ok z
    → next_row kind present wanted ≡ Ok (step z present wanted)
unfolding next_row
calls kind present wanted s z accepted held = bind-good _ accepted ∙ bind-good _ held

pub call-refused : (kind : ℕ) (present wanted : List ℕ) (r : Refusal) → check kind wanted ≡ Err r → next_row kind present wanted ≡ Err r
unfolding next_row
call-refused kind present wanted r e = bind-refused _ e

pub call-other-length : (kind : ℕ) (present wanted : List ℕ) (s : Summary) (r : Refusal) → check kind wanted ≡ Ok s → image_sizes kind (length present) ≡ Err r
    → next_row kind present wanted ≡ Err r
unfolding next_row
call-other-length kind present wanted s r accepted held = bind-good _ accepted ∙ bind-refused _ held
