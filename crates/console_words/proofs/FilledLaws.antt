-- Laws of a lent buffer that is filled element by element.
use Rattle.console_words.proofs.Names.{◌≡◌, eqb, eq-eqb, refl, sym, ap, ◌∙◌, Bool, true, false, cond, true≢false, false≢true, List, [], ◌∷◌, ◌++◌, append_assoc, map, Option, None, Some, same_Some}
use Rattle.console_words.proofs.Names.{none-some, ℕ, suc, ◌+◌, ◌-◌, ◌≤◌, ◌<◌, sub-zero, add-one, arith, length, get_or, take, drop, set, length-set, take-append-drop, take-suc-set}
use Rattle.console_words.proofs.Names.{drop-cons, drop-set-lt, says◌if◌, zero, Held, one, every, written, is_whole, filled, begun, fits, counted}
use Rattle.console_words.proofs.FigureLaws.{says_is, says-not}

module _ {A : Type 0} where
  -- `count` elements are put and `left` are to come: together they are the whole.
  pub record Filling (said : List (Option A)) (first out : List A) (count : ℕ) (left : List (Option A)) : Type 0 where
    pub long : length out ≡ length first
    pub many : count + length left ≡ length said
    pub all : take count out ++ written left (drop count out) ≡ written said first
    pub whole : is_whole left (drop count out) ≡ is_whole said first

  pub fill_start : (said : List (Option A)) (first : List A) → Filling said first first 0 said
  fill_start said first = record { long = refl; many = omega arith; all = refl; whole = refl }

  module _ (said : List (Option A)) (first out : List A) (count : ℕ) (left : List (Option A)) (f : Filling said first out count left) where
    pub fill_on : (a : A) (rest : List (Option A)) → left ≡ Some a ∷ rest → count < length out → Filling said first (set out count a) (count + 1) rest
    fill_on a rest e h =
        let d : drop (suc count) (set out count a) ≡ drop (suc count) out = drop-set-lt (suc count) out count a (omega arith) in
        record {
          long = length-set out count a ∙ f.long;
          many = omega (arith, f.many, ap length e);
          all = rw (add-one count, take-suc-set out count a h, d, append_assoc) (rw (e, drop-cons out count a h) at f.all);
          whole = rw (add-one count, d) (rw (e, drop-cons out count a h) at f.whole);
        }

    -- All are put; the next is none; or it does not fit.
    pub fill_end : left ≡ [] → record { count = Some count; all = out } ≡ begun said first
    fill_end e =
        let n : length said ≡ count = omega (arith, f.many, ap length e) in
        rw (← f.whole, ← f.all, e, take-append-drop count out, n)

    pub fill_stop : (rest : List (Option A)) → left ≡ None ∷ rest → record { count = None; all = out } ≡ begun said first
    fill_stop rest e = rw (← f.whole, ← f.all, e, take-append-drop count out)

  -- ---- counted first

  -- The room is the buffer's length.
  whole-fits : (said : List (Option A)) (first : List A) → is_whole said first ≡ fits said (length first)
  whole-fits [] first = refl
  whole-fits (None ∷ said) first = refl
  whole-fits (Some a ∷ said) [] = refl
  whole-fits (Some a ∷ said) (b ∷ first) = whole-fits said first

  pub no_room : (said : List (Option A)) (room : ℕ) → room < length said → fits said room ≡ false
  no_room [] room h = absurd (omega arith)
  no_room (None ∷ said) room h = refl
  no_room (Some a ∷ said) zero h = refl
  no_room (Some a ∷ said) (suc room) h = no_room said room (omega arith)

  fits_room : (said : List (Option A)) (room : ℕ) → fits said room ≡ true → length said ≤ room
  fits_room [] room h = omega arith
  fits_room (None ∷ said) room h = absurd (false≢true h)
  fits_room (Some a ∷ said) zero h = absurd (false≢true h)
  fits_room (Some a ∷ said) (suc room) h = omega (arith, fits_room said room h)

  pub counted-all : (said : List (Option A)) (room n : ℕ) → Some n ≡ counted said room → (n ≡ length said) × (n ≤ room)
  counted-all said room n e =
      let k = says_is (length said) (fits said room) n e in
      (k.1, omega (arith, k.1, fits_room said room k.0))

  -- `count` elements are counted and `left` are to come.
  pub record Counting (said : List (Option A)) (room count : ℕ) (left : List (Option A)) : Type 0 where
    pub many : count + length left ≡ length said
    pub whole : fits left (room - count) ≡ fits said room
    pub inside : count ≤ room

  pub count-start : (said : List (Option A)) (room : ℕ) → Counting said room 0 said
  count-start said room = record { many = omega arith; whole = ap (fits said) (sub-zero room); inside = omega arith }

  module _ (said : List (Option A)) (room count : ℕ) (left : List (Option A)) (f : Counting said room count left) where
    pub count-on : (a : A) (rest : List (Option A)) → left ≡ Some a ∷ rest → count < room → Counting said room (count + 1) rest
    count-on a rest e h =
        let less : room - count ≡ suc (room - (count + 1)) = omega arith in
        record { many = omega (arith, f.many, ap length e); whole = rw (e, less) at f.whole; inside = omega arith }

    -- All are counted; the next is none; or there is no room for it.
    pub count-end : left ≡ [] → Some count ≡ counted said room
    count-end e =
        let n : length said ≡ count = omega (arith, f.many, ap length e) in
        rw (← f.whole, e, n)

    pub count-stop : (rest : List (Option A)) → left ≡ None ∷ rest → None ≡ counted said room
    count-stop rest e = rw (← f.whole, e)

    pub count-full : 0 < length left → room ≤ count → None ≡ counted said room
    count-full l h = rw (no_room said room (omega (arith, f.many)))

  -- Counted and put; or not counted, and nothing is put.
  module _ (said : List (Option A)) (first : List A) where
    pub filled-all : {n : ℕ} → Some n ≡ counted said (length first) → begun said first ≡ filled said first
    filled-all {n} e = rw (whole-fits said first, (says_is (length said) (fits said (length first)) n e).0)

    pub filled_none : None ≡ counted said (length first) → record { count = None; all = first } ≡ filled said first
    filled_none e = rw (whole-fits said first, says-not (length said) (fits said (length first)) e)

    -- The count and the buffer of a fill.
    pub filled-count : (filled said first).count ≡ (says length said if is_whole said first)
    filled-count = go (is_whole said first)
      where
        go : (b : Bool) → (cond {A = Held A} b (record { count = Some (length said); all = written said first }) (record { count = None; all = first })).count ≡ (says length said if b)
        go true = refl
        go false = refl

    pub filled-whole : is_whole said first ≡ true → filled said first ≡ record { count = Some (length said); all = written said first }
    filled-whole e = rw e

  -- ---- the elements, from the buffer

  pub written-long : (said : List (Option A)) (first : List A) → length (written said first) ≡ length first
  written-long [] first = refl
  written-long (None ∷ said) first = refl
  written-long (Some a ∷ said) [] = refl
  written-long (Some a ∷ said) (b ∷ first) = ap suc (written-long said first)

  pub whole_room : (said : List (Option A)) (first : List A) → is_whole said first ≡ true → length said ≤ length first
  whole_room [] first h = omega arith
  whole_room (None ∷ said) first h = absurd (false≢true h)
  whole_room (Some a ∷ said) [] h = absurd (false≢true h)
  whole_room (Some a ∷ said) (b ∷ first) h = omega (arith, whole_room said first h)

  pub filled-short : (said : List (Option A)) (first : List A) → length first < length said → record { count = None; all = first } ≡ filled said first
  filled-short said first h = go (is_whole said first) refl
    where
      go : (b : Bool) → is_whole said first ≡ b → record { count = None; all = first } ≡ filled said first
      go true e = absurd (omega (arith, whole_room said first e))
      go false e = rw e

  pub begun-filled : (said : List (Option A)) (first out : List A) (n : ℕ) → record { count = Some n; all = out } ≡ begun said first → record { count = Some n; all = out } ≡ filled said first
  begun-filled said first out n e = e ∙ rw ((says_is (length said) (is_whole said first) n (ap (λ (x : Held A). x.count) e)).0)

  pub whole-said : (said : List (Option A)) (first : List A) → is_whole said first ≡ true → every said ≡ Some (take (length said) (written said first))
  whole-said [] first h = refl
  whole-said (None ∷ said) first h = absurd (false≢true h)
  whole-said (Some a ∷ said) [] h = absurd (false≢true h)
  whole-said (Some a ∷ said) (b ∷ first) h = rw (whole-said said first h)

  one-long : (a : A) (o : Option (List A)) (l : List A) (n : ℕ) → one (Some a) o ≡ Some l → ((m : List A) → o ≡ Some m → n < length m) → suc n < length l
  one-long a None l n e h = absurd (none-some l e)
  one-long a (Some m) l n e h = omega (arith, h m refl, ap length (same_Some (a ∷ m) l e))

  pub not-whole : (said : List (Option A)) (first l : List A) → is_whole said first ≡ false → every said ≡ Some l → length first < length l
  not-whole [] first l h e = absurd (true≢false h)
  not-whole (None ∷ said) first l h e = absurd (none-some l e)
  not-whole (Some a ∷ said) [] l h e = one-pos a (every said) l e
    where
      one-pos : (a : A) (o : Option (List A)) (l : List A) → one (Some a) o ≡ Some l → 0 < length l
      one-pos a None l e = absurd (none-some l e)
      one-pos a (Some m) l e = omega (arith, ap length (same_Some (a ∷ m) l e))
  not-whole (Some a ∷ said) (b ∷ first) l h e = one-long a (every said) l (length first) e (λ m. not-whole said first m h)

-- ---- a list with all its elements

pub drop-some : (l : List ℕ) (k : ℕ) → k < length l → map {B = Option ℕ} Some (drop k l) ≡ Some (get_or l k 0) ∷ map {B = Option ℕ} Some (drop (k + 1) l)
drop-some l k h = rw (add-one k, drop-cons l k 0 h)

pub not_empty : {A : Type 0} (l : List A) → false ≡ eqb (length l) 0 → length l ≡ 0 → ⊥
not_empty l e z = true≢false (sym (e ∙ eq-eqb (length l) 0 z))
