-- Laws of changes and commits lent as slices.
use Rattle.promises.proofs.Names.{◌≡◌, refl, sym, ap, ◌∙◌, subst, List, [], ◌∷◌, ◌++◌, ◌≢◌, ℕ, zero, suc, ◌+◌, ◌≤◌, ◌<◌, add-one, arith, ne_eqb, ℤ, pos, Float, nan, length, get_or, afterwards, Missing, Owner, Real}
use Rattle.promises.proofs.Names.{change, commit, Alteration, RealAlteration, RealAlterations, altered_by, altered, level_lent, value_of_sort, value_at, alteration_lent, alterations_before, alterations_lent, Bool, true}
use Rattle.promises.proofs.Names.{false, cond, eqb, changes, commits, alteration_of, change_of, commit_of, content_at, target_at, Target, Content}

pub level-other : (n : ℕ) → n ≢ 1 → n ≢ 2 → Owner ≡ level_lent n
level-other zero no1 no2 = refl
level-other (suc zero) no1 no2 = absurd (no1 refl)
level-other (suc (suc zero)) no1 no2 = absurd (no2 refl)
level-other (suc (suc (suc n))) no1 no2 = refl

pub behind : {X : Type 0} (l : List X) (i : ℕ) (d : X) → length l ≤ i → d ≡ get_or l i d
behind [] i d h = refl
behind (x ∷ l) zero d h = absurd (omega arith)
behind (x ∷ l) (suc i) d h = behind l i d (omega arith)

pub missing-sort : (sort : ℕ) (whole : ℤ) (single : Float) → sort ≢ 0 → sort ≢ 1 → Missing ≡ value_of_sort sort whole single
missing-sort zero whole single no0 no1 = absurd (no0 refl)
missing-sort (suc zero) whole single no0 no1 = absurd (no1 refl)
missing-sort (suc (suc n)) whole single no0 no1 = refl

-- An index past the end of a slice.
pub value_out : (tags : List ℕ) (wholes : List ℤ) (singles : List Float) (i : ℕ) → (i < length tags → i < length wholes → i < length singles → ⊥) →
    Missing ≡ value_at tags wholes singles i
value_out [] wholes singles i h = refl
value_out (s ∷ tags) [] singles i h = refl
value_out (s ∷ tags) (w ∷ wholes) [] i h = refl
value_out (s ∷ tags) (w ∷ wholes) (x ∷ singles) zero h = absurd (h (omega arith) (omega arith) (omega arith))
value_out (s ∷ tags) (w ∷ wholes) (x ∷ singles) (suc i) h = value_out tags wholes singles i (λ a b c. h (omega arith) (omega arith) (omega arith))

-- An index inside all slices.
pub value_in : (tags : List ℕ) (wholes : List ℤ) (singles : List Float) (i : ℕ) → i < length tags → i < length wholes → i < length singles →
    value_of_sort (get_or tags i 0) (get_or wholes i (pos 0)) (get_or singles i nan) ≡ value_at tags wholes singles i
value_in [] wholes singles i a b c = absurd (omega arith)
value_in (s ∷ tags) [] singles i a b c = absurd (omega arith)
value_in (s ∷ tags) (w ∷ wholes) [] i a b c = absurd (omega arith)
value_in (s ∷ tags) (w ∷ wholes) (x ∷ singles) zero a b c = refl
value_in (s ∷ tags) (w ∷ wholes) (x ∷ singles) (suc i) a b c = value_in tags wholes singles i (omega arith) (omega arith) (omega arith)

-- ---- one more

altered-more : (image : List ℕ) (list : List Alteration) (a : Alteration) → altered image (list ++ (a ∷ [])) ≡ altered_by (altered image list) a
altered-more image [] a = refl
altered-more image (b ∷ list) a = altered-more (altered_by image b) list a

real-more : (list : List Alteration) (a : Alteration) → RealAlterations list → RealAlteration a → RealAlterations (list ++ (a ∷ []))
real-more [] a h r = (r, tt)
real-more (b ∷ list) a h r = (h.0, real-more list a h.1 r)

-- ---- one of them

abbrev Made : List ℕ → List ℕ → Target → Content → Type 0
Made image after t c = (after ≡ altered_by image (alteration_of t c)) × RealAlteration (alteration_of t c)

pub committed : (image after : List ℕ) (t : Target) (c : Content) → c.sort ≡ 3 →
    after ≡ afterwards image (commit t.kind image t.level t.field c.present c.new) → after ≡ altered_by image (alteration_of t c)
committed image after t c s e = rw s e

pub changed : (image after : List ℕ) (t : Target) (c : Content) → c.sort ≢ 3 →
    after ≡ afterwards image (change t.kind image t.level t.field c.value) → after ≡ altered_by image (alteration_of t c)
changed image after t c s e = rw (ne_eqb c.sort 3 s) e

real-by : (b : Bool) (t : Target) (c : Content) → Real c.value → RealAlteration (cond b (commits (commit_of t c)) (changes (change_of t c)))
real-by true t c r = tt
real-by false t c r = r

module _ (kinds levels fields tags : List ℕ) (wholes : List ℤ) (singles : List Float) (presents news : List ℕ) where
  abbrev here : ℕ → Alteration
  here i = alteration_lent kinds levels fields tags wholes singles presents news i

  made-here : (image after : List ℕ) (i : ℕ) (t : Target) (c : Content) →
      t ≡ target_at kinds levels fields i → (c ≡ content_at tags wholes singles presents news i) × Real c.value →
      after ≡ altered_by image (alteration_of t c) → (after ≡ altered_by image (here i)) × RealAlteration (here i)
  made-here image after i t c p (q, r) e =
      subst (λ (d : Content). Made image after (target_at kinds levels fields i) d) q
      (subst (λ (u : Target). Made image after u c) p (e, real-by (eqb c.sort 3) t c r))

  -- The image is as the alterations before an index leave it.
  pub record Altered (start image : List ℕ) (i : ℕ) : Type 0 where
    pub bytes : image ≡ altered start (alterations_before kinds levels fields tags wholes singles presents news i)
    pub real : RealAlterations (alterations_before kinds levels fields tags wholes singles presents news i)

  pub one_more : (start image after : List ℕ) (i : ℕ) (t : Target) (c : Content) → Altered start image i →
      t ≡ target_at kinds levels fields i → (c ≡ content_at tags wholes singles presents news i) × Real c.value →
      after ≡ altered_by image (alteration_of t c) → Altered start after (i + 1)
  one_more start image after i t c h p q e =
      let list = alterations_before kinds levels fields tags wholes singles presents news i in
      let (m, r) = made-here image after i t c p q e in
      rw (add-one i)
      (record {
        bytes = m ∙ ap (λ l. altered_by l (here i)) h.bytes ∙ sym (altered-more start list (here i));
        real = real-more list (here i) h.real r;
      })

  pub all-of-them : (start image : List ℕ) (i : ℕ) → i ≡ length fields → Altered start image i →
      let list = alterations_lent kinds levels fields tags wholes singles presents news in (image ≡ altered start list) × RealAlterations list
  all-of-them start image i e h = rw (← e) (h.bytes, h.real)
