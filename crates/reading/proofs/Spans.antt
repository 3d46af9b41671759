-- Laws of the span: rows 13 and 21 in their order, and what its ends are then.
use Rattle.reading.proofs.Names.{◌≡◌, refl, sym, ap, ◌∙◌, subst, Bool, true, false, ⊎_elim, List, [], ◌∷◌, ℕ, arith, Float, le_z, ◌<ℤ◌, tag_of, OneOf, nle_z-parts, parts-<ℤ, is_false, Outcome, Ok, Err, ◌>>◌}
use Rattle.reading.proofs.Names.{◌>>=◌, refuse◌if◌, NoSpan, EndOutside, good-same, good-then, passed, the_type, Value, Whole, Single, Missing, Layout, Contents, field, Opened, Opens, layout_is, Ends, Span}
use Rattle.reading.proofs.Names.{is_resistance, electrical_figure, least_of, greatest_of, float, is_missing, is_outside, refuse_first, span_of, ends_of, Ready}
use Rattle.reading.proofs.Opening.{Floated, electrical-small, floated-real, opened-low, opened-high, opened-least, opened-greatest}

-- ---- a value of another sort than its field's is missing

no-float : (v w : Value) → v ≡ w → Floated w → OneOf (0 ∷ 2 ∷ []) (tag_of the_type v) → w ≡ Missing
no-float v (Whole z) e h t = absurd h
no-float v (Single x) e h t = ⊎_elim (λ a. absurd (omega arith)) (λ a. absurd (omega arith)) (rw e at t)
no-float v Missing e h t = refl

-- ---- the answers in their order

pub resistance-is : {kind : ℕ} {image : List ℕ} {o : Opened} {c : Contents} → Opens kind image o c → is_resistance c.template ≡ is_resistance o.layout.template
resistance-is h = ap (λ (l : Layout). is_resistance l.template) (sym (layout_is h))

abbrev span_by : Float → Float → Ends → Span
span_by low high e = record { low = low; high = high; least = e.least; greatest = e.greatest }

-- Five tests in order, as `ends_of` has them, are two, two and one, as `span_of` has them.
abbrev one_by_one : Bool → Bool → Bool → Bool → Bool → Ends → Outcome Ends
one_by_one a b p q t ends = do
  refuse NoSpan 10 if a
  refuse NoSpan 11 if b
  refuse EndOutside 10 if p
  refuse EndOutside 11 if q
  refuse NoSpan 11 if t
  Ok ends

abbrev by_row : Bool → Bool → Bool → Bool → Bool → Span → Outcome Span
by_row a b p q t span = do
  refuse NoSpan 10 if a >> (refuse NoSpan 11 if b >> Ok (tt {0}))
  refuse EndOutside 10 if p >> (refuse EndOutside 11 if q >> Ok (tt {0}))
  refuse NoSpan 11 if t
  Ok span

grouped : (a b p q t : Bool) (ends : Ends) (low high : Float) → (one_by_one a b p q t ends >>= λ e. Ok (span_by low high e)) ≡ by_row a b p q t (span_by low high ends)
grouped true b p q t ends low high = refl
grouped false true p q t ends low high = refl
grouped false false true q t ends low high = refl
grouped false false false true t ends low high = refl
grouped false false false false true ends low high = refl
grouped false false false false false ends low high = refl

-- For template 33.
module _ {kind : ℕ} {image : List ℕ} {o : Opened} {c : Contents} (h : Opens kind image o c) (t₀ : is_resistance o.layout.template ≡ false) where
  abbrev b : is_resistance c.template ≡ false
  b = resistance-is h ∙ t₀

  pub no-low : {v : Value} → v ≡ (field c 7).value → OneOf (0 ∷ 2 ∷ []) (tag_of the_type v) → Err (NoSpan 7) ≡ span_of c
  unfolding span_of
  no-low e t = rw (no-float _ _ e (opened-low h b) t)

  module _ {l : Float} (el : (field c 7).value ≡ Single l) where
    pub no-high : {v : Value} → v ≡ (field c 8).value → OneOf (0 ∷ 2 ∷ []) (tag_of the_type v) → Err (NoSpan 8) ≡ span_of c
    unfolding span_of
    no-high e t = rw (el, no-float _ _ e (opened-high h b) t)

    -- With fields 7 and 8 the answer is that of fields 10 and 11.
    module _ {g : Float} (eg : (field c 8).value ≡ Single g) where
      pub by-ends : {v w : Value} {o : Outcome Ends} → v ≡ (field c 10).value → w ≡ (field c 11).value → o ≡ ends_of v w → (o >>= λ e. Ok (span_by l g e)) ≡ span_of c
      unfolding span_of ends_of
      by-ends {v} {w} ev ew e = rw (e, el, eg, ← ev, ← ew) (grouped (is_missing v) (is_missing w) (is_outside v) (is_outside w) (le_z (electrical_figure w) (electrical_figure v)) _ l g)

-- ---- what the ends are then

pub record Spans (c : Contents) (s : Span) : Type 0 where
  pub low : is_missing (field c 7).value ≡ false
  pub high : is_missing (field c 8).value ≡ false
  pub least : is_outside (field c 10).value ≡ false
  pub greatest : is_outside (field c 11).value ≡ false
  pub rises : least_of c <ℤ greatest_of c
  pub is : record { low = float (field c 7).value; high = float (field c 8).value; least = least_of c; greatest = greatest_of c } ≡ s

pub spanned : (c : Contents) (s : Span) → span_of c ≡ Ok s → Spans c s
unfolding span_of
spanned c s e =
    let k = good-then (refuse_first NoSpan is_missing c (7 ∷ 8 ∷ 10 ∷ 11 ∷ [])) _ s e in
    let a = passed (NoSpan 7) (is_missing (field c 7).value) (refuse_first NoSpan is_missing c (8 ∷ 10 ∷ 11 ∷ [])) tt k.0 in
    let b = passed (NoSpan 8) (is_missing (field c 8).value) (refuse_first NoSpan is_missing c (10 ∷ 11 ∷ [])) tt a.1 in
    let o = good-then (refuse_first EndOutside is_outside c (10 ∷ 11 ∷ [])) _ s k.1 in
    let p = passed (EndOutside 10) (is_outside (field c 10).value) (refuse_first EndOutside is_outside c (11 ∷ [])) tt o.0 in
    let q = passed (EndOutside 11) (is_outside (field c 11).value) (Ok tt) tt p.1 in
    let t = passed (NoSpan 11) (le_z (greatest_of c) (least_of c)) _ s o.1 in
    record {
      low = a.0;
      high = b.0;
      least = p.0;
      greatest = q.0;
      rises = parts-<ℤ (least_of c) (greatest_of c) (nle_z-parts (greatest_of c) (least_of c) (is_false t.0));
      is = good-same t.1;
    }

pub span-ready : {kind : ℕ} {image : List ℕ} {o : Opened} {c : Contents} {s : Span} → Opens kind image o c → is_resistance o.layout.template ≡ false → span_of c ≡ Ok s → Ready s
span-ready {c = c} {s = s} h t e =
    let b = resistance-is h ∙ t in
    let k = spanned c s e in
    subst Ready k.is
    (record {
      rises = k.rises;
      least = electrical-small (field c 10).value (opened-least h b) k.least;
      greatest = electrical-small (field c 11).value (opened-greatest h b) k.greatest;
      low = floated-real (field c 7).value (opened-low h b) k.low;
      high = floated-real (field c 8).value (opened-high h b) k.high;
    })
