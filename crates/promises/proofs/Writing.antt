-- Laws of an image that is written row by row.
use Rattle.promises.proofs.Names.{◌≡◌, refl, sym, ap, ◌∙◌, Bool, true, false, not, List, ◌⊎◌, inl, inr, ℕ, zero, suc, ◌/◌, ◌≤◌, arith, length, ext_get_or, Refusal, Outcome, Ok, Err, ◌>>◌, ◌>>=◌, refuse◌if◌}
use Rattle.promises.proofs.Names.{WrongSum, BlankChip, no_value_lem, bind-good, then-refused, Sizes, Bytes, image_sizes, page_test, is_good, blank_from, sums_from, sums, parse, sheet_of, contents, stream_in, count, Summary}
use Rattle.promises.proofs.Names.{check, differs, differing_rows, Step, write, step, next_row, after, Torn, Refuses, WantedOrRefused, Fits, there-done, step-whole, step-torn, step-bytes, step_fits, left-none}
use Rattle.promises.proofs.Names.{left-most, left-two, step-nearer, done-there, step-changes, Called, called, calls, kind-pages, carried_out, next, writes, Reached, start, torn, RefusedBySums, Safe, differing}
use Rattle.promises.proofs.Names.{enough, Ends, DoneExactly, Resumes, Sparing}
use Rattle.writing.proofs.StepLaws.{left}
use Rattle.promises.specs.Writing.{whole}

-- ---- refused by its sums

-- What the sums refuse, they refuse as blank or for a page.
reasons : (z : Sizes) (image : List ℕ) (why : Refusal) → sums z image ≡ Err why → (why ≡ BlankChip) ⊎ ((page : ℕ) × (why ≡ WrongSum page))
unfolding sums_from
reasons z image why e = go (blank_from z image z.pages 0) e
  where
    pages : (n i : ℕ) → sums_from z image n i ≡ Err why → (page : ℕ) × (why ≡ WrongSum page)
    pages zero i f = no_value_lem (sym f)
    pages (suc n) i f = test (is_good (page_test z image i)) f (pages n (suc i))
      where
        test : (b : Bool) → ((refuse WrongSum i if not b) >> sums_from z image n (suc i)) ≡ Err why
            → (sums_from z image n (suc i) ≡ Err why → (page : ℕ) × (why ≡ WrongSum page)) → (page : ℕ) × (why ≡ WrongSum page)
        test true g behind = behind g
        test false g behind = (i, cc)

    go : (b : Bool) → (refuse BlankChip if b >> sums_from z image z.pages 0) ≡ Err why → (why ≡ BlankChip) ⊎ ((page : ℕ) × (why ≡ WrongSum page))
    go true f = inl (cc)
    go false f = inr (pages z.pages 0 f)

sums-refuse : (kind : ℕ) (image : List ℕ) (z : Sizes) → image_sizes kind (length image) ≡ Ok z → Refuses z image → RefusedBySums kind image
unfolding contents
sums-refuse kind image z sized (why, e) =
    (why, bind-good (λ y. sums y image >> (parse (stream_in y image) sheet_of 0 >>= λ parsed. Ok parsed.found)) sized ∙ then-refused _ e, reasons z image why e)

-- ---- the call, carried out

module _ (kind : ℕ) (present wanted : List ℕ) (s : Step) (e : next_row kind present wanted ≡ Ok s) where
  by : Called kind present wanted s
  by = called kind present wanted s e

  next-is : next kind wanted present ≡ after (step by.sizes present wanted) present
  next-is = ap (λ (o : Outcome Step). carried_out o present) e ∙ ap (λ (x : Step). after x present) (sym by.is)

  -- Only the length of what is on the chip matters for its sizes.
  again : (image : List ℕ) → length image ≡ length present → next_row kind image wanted ≡ Ok (step by.sizes image wanted)
  again image same = calls kind image wanted by.shown by.sizes by.accepted (ap (image_sizes kind) same ∙ by.sized)

  next-long : length (next kind wanted present) ≡ length present
  next-long = ap length next-is ∙ (step_fits by.sizes present wanted by.asked.fits).held ∙ sym by.asked.fits.held

-- A refused call writes nothing.
refused-next : (kind : ℕ) (present wanted : List ℕ) (r : Refusal) → next_row kind present wanted ≡ Err r → next kind wanted present ≡ present
refused-next kind present wanted r e = ap (λ (o : Outcome Step). carried_out o present) e

-- A byte that does not change is not torn.
torn-same : (before image : List ℕ) → Torn before before image → image ≡ before
torn-same before image t = ext_get_or 0 image before t.long (λ i h. t.stays i refl)

-- ---- 1. safe

record Kept (kind : ℕ) (wanted old image : List ℕ) : Type 0 where
  long : length image ≡ length old
  bytes : Bytes image
  stands : (image ≡ old) ⊎ ((image ≡ wanted) ⊎ RefusedBySums kind image)

module _ (kind : ℕ) (wanted old : List ℕ) (bw : Bytes wanted) (bo : Bytes old) where
  same_kept : {present image : List ℕ} → Kept kind wanted old present → image ≡ present → Kept kind wanted old image
  same_kept k e = rw e k

  module _ (present : List ℕ) (k : Kept kind wanted old present) where
    whole-kept : (o : Outcome Step) → next_row kind present wanted ≡ o → Kept kind wanted old (next kind wanted present)
    whole-kept (Err r) e = same_kept k (refused-next kind present wanted r e)
    whole-kept (Ok s) e =
        let c = by kind present wanted s e in
        let x = next kind wanted present in
        let is = next-is kind present wanted s e in
        let long = next-long kind present wanted s e in
        record {
          long = long ∙ k.long;
          bytes = rw is (step-bytes c.sizes present wanted c.asked.fits k.bytes bw);
          stands = inr (judged c.sizes x (ap (image_sizes kind) long ∙ c.sized) (rw is (step-whole c.sizes present wanted c.asked.fits c.asked.right)));
        }
      where
        judged : (z : Sizes) (x : List ℕ) → image_sizes kind (length x) ≡ Ok z → WantedOrRefused z wanted x → (x ≡ wanted) ⊎ RefusedBySums kind x
        judged z x sized (inl d) = inl d
        judged z x sized (inr d) = inr (sums-refuse kind x z sized d)

    torn-kept : (image : List ℕ) → 1 ≤ kind → (o : Outcome Step) → next_row kind present wanted ≡ o → Torn present (next kind wanted present) image → Kept kind wanted old image
    torn-kept image some (Err r) e t =
        same_kept k (torn-same present image (rw (refused-next kind present wanted r e) at t))
    torn-kept image some (Ok s) e t =
        let c = by kind present wanted s e in
        let u : Torn present (after (step c.sizes present wanted) present) image = rw (next-is kind present wanted s e) at t in
        record {
          long = t.long ∙ k.long;
          bytes = t.bytes;
          stands =
              judged c.sizes (ap (image_sizes kind) t.long ∙ c.sized)
              (step-torn c.sizes present wanted c.asked.fits (kind-pages kind (length present) c.sizes c.sized some) image k.bytes bw c.asked.right u);
        }
      where
        judged : (z : Sizes) → image_sizes kind (length image) ≡ Ok z → (image ≡ present) ⊎ WantedOrRefused z wanted image
            → (image ≡ old) ⊎ ((image ≡ wanted) ⊎ RefusedBySums kind image)
        judged z sized (inl d) = rw d k.stands
        judged z sized (inr (inl d)) = inr (inl d)
        judged z sized (inr (inr d)) = inr (inr (sums-refuse kind image z sized d))

  kept : {image : List ℕ} → Reached kind wanted old image → Kept kind wanted old image
  kept start = record { long = refl; bytes = bo; stands = inl refl }
  kept (whole {present = p} c) = whole-kept p (kept c) (next_row kind p wanted) refl
  kept (torn {present = p} {image = x} some c t) = torn-kept p (kept c) x some (next_row kind p wanted) refl t

pub safe : Safe
safe kind wanted old bw bo image c = (kept kind wanted old bw bo c).stands

-- ---- 2. ends

module _ (kind : ℕ) (wanted : List ℕ) (shown : Summary) (accepted : check kind wanted ≡ Ok shown) (z : Sizes) where
  by-steps : (n : ℕ) (present : List ℕ) → image_sizes kind (length present) ≡ Ok z → Fits z present wanted → left z wanted present ≤ n → writes kind wanted n present ≡ wanted
  by-steps zero present sized fits h = left-none z present wanted fits (omega arith)
  by-steps (suc n) present sized fits h =
      let e : next kind wanted present ≡ after (step z present wanted) present = ap (λ (o : Outcome Step). carried_out o present) (calls kind present wanted shown z accepted sized) in
      let q = after (step z present wanted) present in
      let f = step_fits z present wanted fits in
      ap (writes kind wanted n) e
      ∙ by-steps n q (ap (image_sizes kind) (f.held ∙ sym fits.held) ∙ sized) f (omega (arith, step-nearer z present wanted fits))

-- A kind's rows are the image's.
rows_are : (z : Sizes) (present wanted : List ℕ) → Fits z present wanted → differing_rows z present wanted ≡ differing present wanted
rows_are z present wanted fits = ap (λ (n : ℕ). count (differs present wanted) (n / 8)) (sym fits.asked)

left-enough : (kind : ℕ) (z : Sizes) (present wanted : List ℕ) → image_sizes kind (length present) ≡ Ok z → Fits z present wanted → left z wanted present ≤ enough kind present wanted
left-enough zero z present wanted sized fits = omega (arith, left-most z present wanted fits, rows_are z present wanted fits)
left-enough (suc k) z present wanted sized fits =
    omega (arith, left-two z present wanted fits (kind-pages (suc k) (length present) z sized (omega arith)), rows_are z present wanted fits)

pub ends : Ends
ends kind wanted present (s, e) n h =
    let c = called kind present wanted s e in
    by-steps kind wanted c.shown c.accepted c.sizes n present c.sized c.asked.fits
    (omega (arith, left-enough kind c.sizes present wanted c.sized c.asked.fits))

pub done-exactly : DoneExactly
done-exactly kind wanted present s e =
    let c = called kind present wanted s e in
    (λ d. done-there c.sizes present wanted c.asked.fits (c.is ∙ d), λ d. sym c.is ∙ ap (λ (l : List ℕ). step c.sizes l wanted) d ∙ there-done c.sizes wanted)

-- ---- 3. resumes

-- What a chip can hold is as long as what it held.
reached-long : (kind : ℕ) (wanted old : List ℕ) {image : List ℕ} → Reached kind wanted old image → length image ≡ length old
reached-long kind wanted old start = refl
reached-long kind wanted old (whole {present = p} c) = next-length (next_row kind p wanted) refl ∙ reached-long kind wanted old c
  where
    next-length : (o : Outcome Step) → next_row kind p wanted ≡ o → length (next kind wanted p) ≡ length p
    next-length (Ok s) e = next-long kind p wanted s e
    next-length (Err r) e = ap length (refused-next kind p wanted r e)
reached-long kind wanted old (torn some c t) = t.long ∙ reached-long kind wanted old c

pub resumes : Resumes
resumes kind wanted old (s, e) image c =
    let a = again kind old wanted s e image (reached-long kind wanted old c) in
    record { taken = (_, a); ends = ends kind wanted image (_, a) }

-- ---- 4. sparing

pub sparing : Sparing
sparing kind wanted present r bytes e =
    let c = called kind present wanted (write r bytes) e in
    let (below, eight, other) = rw c.is at (step-changes c.sizes present wanted c.asked.fits) in
    (omega (arith, c.asked.fits.held), eight, other)
