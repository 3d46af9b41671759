-- Laws of opened sheets and their images.
use Rattle.sheet.proofs.Names.{◌≡◌, refl, sym, ap, ◌∙◌, subst, List, ◌⊎◌, inl, inr, Bool, true, false, not, ℕ, zero, suc, ◌≤◌, ◌<◌, arith, eqb, leb, length, le-leb, lt-leb, leb-true, leb-false, Refusal, Outcome}
use Rattle.sheet.proofs.Names.{Ok, Err, WrongImage, NoSuch, good-same, no_value_lem, same_of, good-bind, bind_assoc, Sizes, Outcome, sizes_of}
use Rattle.sheet.proofs.Names.{image_bytes, stream_bits, image_sizes, sums, WholeImage, sizes-whole, parse, Contents, sheet_of, stream_in, contents, Item, Opened, Outcome, Ok, Err}
use Rattle.sheet.proofs.Names.{summary, opened_as, opened, counted, opened_at, Opens, Held, Roomy, walked}
use Rattle.refusal.specs.Outcome.{◌>>=◌, ◌>>◌, refuse◌if◌}
use Rattle.refusal.proofs.Outcomes.{passed}
use Rattle.sheet.proofs.Steps.{carried}

-- ---- opening, step by step

-- The stream of each kind has 312 bits or more.
bits-least : (kind : ℕ) (z : Sizes) → sizes_of kind ≡ Ok z → 312 ≤ stream_bits z
bits-least zero z e = rw (← good-same e) (omega arith)
bits-least (suc zero) z e = rw (← good-same e) (omega arith)
bits-least (suc (suc zero)) z e = rw (← good-same e) (omega arith)
bits-least (suc (suc (suc k))) z e = no_value_lem e

module _ (kind : ℕ) (image : List ℕ) (x : Outcome Sizes) (e : x ≡ image_sizes kind (length image)) where
  pub sizes-refused : {r : Refusal} → x ≡ Err r → Err r ≡ opened kind image
  unfolding opened
  sizes-refused h = rw (← same_of h e)

  module _ {z : Sizes} (h : x ≡ Ok z) where
    pub sized : WholeImage z image
    sized = sizes-whole kind image z (sym (same_of h e))

    pub roomy : Roomy z image
    unfolding image_sizes
    roomy =
        let (y, s, t) = good-bind (sizes_of kind) _ z (sym (same_of h e)) in
        let (right, same) = passed WrongImage (not (eqb (length image) (image_bytes y))) (Ok y) z t in
        record { whole = sized; room = bits-least kind z (s ∙ same) }

    pub sums-refused : {y : Outcome (Unit {0})} {r : Refusal} → y ≡ sums z image → y ≡ Err r → Err r ≡ opened kind image
    unfolding opened contents
    sums-refused f g = rw (← same_of h e, ← same_of g f)

    pub sums-right : {y : Outcome (Unit {0})} → y ≡ sums z image → y ≡ Ok tt → walked z image ≡ opened kind image
    unfolding opened contents
    sums-right f g = rw (← same_of h e, ← same_of g f) (sym (bind_assoc (parse (stream_in z image) sheet_of 0) (λ x. Ok x.found) (λ c. Ok (opened_as z c))))

-- ---- an opened sheet

unsized : (kind : ℕ) (image : List ℕ) (q : Refusal) → image_sizes kind (length image) ≡ Err q → contents kind image ≡ Err q
unfolding contents
unsized kind image q h = rw h

module _ (kind : ℕ) (image : List ℕ) (x : Outcome Opened) (e : x ≡ opened kind image) where
  pub opens : {o : Opened} → x ≡ Ok o → (c : Contents) × Opens kind image o c
  unfolding opened
  opens {o} h =
      let (z, sized, f) = good-bind (image_sizes kind (length image)) _ o (sym (same_of h e)) in
      let (c, accepted, g) = good-bind (contents kind image) _ o f in
      let i : opened_as z c ≡ o = good-same g in
      (c, record { sized = sized ∙ ap (λ u. Ok u.sizes) i; accepted = accepted; is = sym i ∙ ap (λ u. opened_as u.sizes c) i })

  pub held : {o : Opened} → x ≡ Ok o → Held o image
  held h = let (c, p) = opens h in record { kind = kind; holds = c; opens = p }

  pub not_opened : {r : Refusal} → x ≡ Err r → contents kind image ≡ Err r
  unfolding opened
  not_opened {r} h = go (image_sizes kind (length image)) refl (contents kind image) refl (same_of h e)
    where
      go : (p : Outcome Sizes) → image_sizes kind (length image) ≡ p → (q : Outcome Contents) → contents kind image ≡ q →
          Err r ≡ (p >>= λ z. q >>= λ c. Ok (opened_as z c)) → contents kind image ≡ Err r
      go (Ok z) ep (Ok c) eq f = no_value_lem f
      go (Ok z) ep (Err q) eq f = let g : q ≡ r = cc in eq ∙ ap Err g
      go (Err q) ep o eq f = let g : q ≡ r = cc in unsized kind image q ep ∙ ap Err g

-- ---- one of its items

module _ (kind : ℕ) (image : List ℕ) (item : Item) (i : ℕ) where
  abbrev numbered : Opened → Bool → Outcome Opened
  numbered o b = refuse NoSuch i if b >> Ok o

  module _ (x : Outcome Opened) (e : x ≡ opened kind image) where
    pub item_refused : {r : Refusal} → x ≡ Err r → Err r ≡ opened_at kind image item i
    item_refused h = carried (λ o. o) _ h e

    pub no_item : {o : Opened} → x ≡ Ok o → counted item o.summary ≤ i → Err (NoSuch i) ≡ opened_at kind image item i
    no_item {o} h l = sym (ap (numbered o) (le-leb (counted item o.summary) i l)) ∙ carried (λ o. o) _ h e

    pub an_item : {o : Opened} → x ≡ Ok o → i < counted item o.summary → Ok o ≡ opened_at kind image item i
    an_item {o} h l = sym (ap (numbered o) (lt-leb (counted item o.summary) i l)) ∙ carried (λ o. o) _ h e

  -- For an accepted image that has the item; or the refusal of the image, or 8.
  module _ (x : Outcome Opened) (e : x ≡ opened_at kind image item i) where
    pub item-opens : {o : Opened} → x ≡ Ok o → (c : Contents) × Opens kind image o c × (i < counted item o.summary)
    item-opens {o} h =
        let (p, f, g) = good-bind (opened kind image) _ o (sym (same_of h e)) in
        let (t, k) = passed (NoSuch i) (leb (counted item p.summary) i) (Ok p) o g in
        let q : p ≡ o = good-same k in
        let (c, w) = opens kind image (Ok o) (ap Ok (sym q) ∙ sym f) refl in
        (c, w, subst (λ (u : Opened). i < counted item u.summary) q (leb-false (counted item p.summary) i t))

    pub item-held : {o : Opened} → x ≡ Ok o → Held o image × (i < counted item o.summary)
    item-held h = let (c, p, l) = item-opens h in (record { kind = kind; holds = c; opens = p }, l)

    pub item-none : {r : Refusal} → x ≡ Err r →
        (contents kind image ≡ Err r) ⊎ ((c : Contents) × (contents kind image ≡ Ok c) × (counted item (summary c) ≤ i) × (r ≡ NoSuch i))
    unfolding opened
    item-none {r} h = go (image_sizes kind (length image)) refl (contents kind image) refl (same_of h e)
      where
        past : (o : Opened) (t : Bool) → leb (counted item o.summary) i ≡ t → Err r ≡ numbered o t → (counted item o.summary ≤ i) × (r ≡ NoSuch i)
        past o true s f = (leb-true (counted item o.summary) i s, cc)
        past o false s f = no_value_lem f

        go : (p : Outcome Sizes) → image_sizes kind (length image) ≡ p → (q : Outcome Contents) → contents kind image ≡ q →
            Err r ≡ (p >>= (λ z. q >>= λ c. Ok (opened_as z c)) >>= λ o. numbered o (leb (counted item o.summary) i)) →
            (contents kind image ≡ Err r) ⊎ ((c : Contents) × (contents kind image ≡ Ok c) × (counted item (summary c) ≤ i) × (r ≡ NoSuch i))
        go (Ok z) ep (Ok c) eq f = let (l, s) = past (opened_as z c) (leb (counted item (summary c)) i) refl f in inr (c, eq, l, s)
        go (Ok z) ep (Err q) eq f = let g : q ≡ r = cc in inl (eq ∙ ap Err g)
        go (Err q) ep o eq f = let g : q ≡ r = cc in inl (unsized kind image q ep ∙ ap Err g)
