-- Laws of every format: pieces that parse by it are those that a stream is read as, and conversely.
use Rattle.layout.proofs.Names.{◌≡◌, refl, sym, ap, ap₂, ◌∙◌, subst, Bool, true, false, not, cond, List, [], ◌∷◌, ◌++◌, append-nil, ℕ, ◌+◌, ◌-◌, ◌^◌, ◌≤◌, ◌<◌, ◌%◌, arith, eqb, ltb, le-ltb, ltb-false, eqb-true}
use Rattle.layout.proofs.Names.{not-false, Refusal, Outcome, Ok, Err, PastEnd, field_at, Piece, piece, needed, field_lt, Fit, Holds, holds-cons, holds-uncons, holds-nil, holds-mod, Format, ends, stops, takes}
use Rattle.layout.proofs.Names.{looks, ◌>>=◌, ◌>>◌, bits, reject◌if◌, Stream, Parsed, parse}
use Rattle.refusal.specs.Outcome as outcome

abbrev pub parsed : {A : Type 0} → A → ℕ → Parsed A
parsed a at = record { found = a; next = at }

-- ---- one format after another

cond-bind : {A B : Type 0} (t : Bool) (r : Refusal) (m : Outcome A) (k : A → Outcome B) →
    cond t (Err r) (outcome.◌>>=◌ m k) ≡ outcome.◌>>=◌ (cond t (Err r) m) k
cond-bind true r m k = refl
cond-bind false r m k = refl

-- The second format is parsed from the place after the first.
pub parse-bind : {A B : Type 0} (s : Stream) (m : Format A) (k : A → Format B) (at : ℕ) →
    parse s (m >>= k) at ≡ outcome.◌>>=◌ (parse s m at) (λ x. parse s (k x.found) x.next)
parse-bind s (ends a) k at = refl
parse-bind s (stops r) k at = refl
parse-bind s (takes w step) k at =
    let c : ℕ = field_at s.number at w in
    ap (λ x. cond (ltb s.bits (at + w)) (Err (PastEnd at)) x) (parse-bind s (step c) k (at + w))
    ∙ cond-bind (ltb s.bits (at + w)) (PastEnd at) (parse s (step c) (at + w)) (λ x. parse s (k x.found) x.next)
parse-bind s (looks step) k at = parse-bind s (step at (s.bits - at)) k at

-- A first format that parsed, or that refused, and the format after it.
module _ {A B : Type 0} (s : Stream) (m : Format A) (k : A → Format B) (at : ℕ) where
  pub parse-next : {a : A} {n : ℕ} → Ok (parsed a n) ≡ parse s m at → parse s (m >>= k) at ≡ parse s (k a) n
  parse-next e = parse-bind s m k at ∙ ap (λ o. outcome.◌>>=◌ o (λ x. parse s (k x.found) x.next)) (sym e)

  pub parse-refused : {r : Refusal} → Err r ≡ parse s m at → parse s (m >>= k) at ≡ Err r
  parse-refused e = parse-bind s m k at ∙ ap (λ o. outcome.◌>>=◌ o (λ x. parse s (k x.found) x.next)) (sym e)

  -- What two formats in order parse, each parses.
  pub parse-split : {b : B} {n : ℕ} → Ok (parsed b n) ≡ parse s (m >>= k) at →
      (a : A) × (i : ℕ) × (Ok (parsed a i) ≡ parse s m at) × (Ok (parsed b n) ≡ parse s (k a) i)
  parse-split {b} {n} e = go (parse s m at) refl (e ∙ parse-bind s m k at)
    where
      go : (o : Outcome (Parsed A)) → parse s m at ≡ o → Ok (parsed b n) ≡ outcome.◌>>=◌ o (λ x. parse s (k x.found) x.next) →
          (a : A) × (i : ℕ) × (Ok (parsed a i) ≡ parse s m at) × (Ok (parsed b n) ≡ parse s (k a) i)
      go (Ok x) f g = (x.found, x.next, sym f, g)
      go (Err r) f g = absurd (let z : ◌≡◌ {A = ℕ} 0 1 = cc in omega arith)

-- Sequences of formats regroup, and next formats that parse alike give the same parse.
pub parse-assoc : {A B C : Type 0} (s : Stream) (m : Format A) (k : A → Format B) (j : B → Format C) (at : ℕ) →
    parse s ((m >>= k) >>= j) at ≡ parse s (m >>= λ a. k a >>= j) at
parse-assoc s (ends a) k j at = refl
parse-assoc s (stops r) k j at = refl
parse-assoc s (takes w step) k j at =
    ap (λ o. cond (ltb s.bits (at + w)) (Err (PastEnd at)) o) (parse-assoc s (step (field_at s.number at w)) k j (at + w))
parse-assoc s (looks step) k j at = parse-assoc s (step at (s.bits - at)) k j at

pub parse-alike : {A B : Type 0} (s : Stream) (m : Format A) (k j : A → Format B) (at : ℕ) →
    ((a : A) (n : ℕ) → parse s (k a) n ≡ parse s (j a) n) → parse s (m >>= k) at ≡ parse s (m >>= j) at
parse-alike s (ends a) k j at h = h a at
parse-alike s (stops r) k j at h = refl
parse-alike s (takes w step) k j at h =
    ap (λ o. cond (ltb s.bits (at + w)) (Err (PastEnd at)) o) (parse-alike s (step (field_at s.number at w)) k j (at + w) h)
parse-alike s (looks step) k j at h = parse-alike s (step at (s.bits - at)) k j at h

-- ---- pieces that parse by a format

-- The pieces, from bit `at` of a stream of S bits on, parse to b.
abbrev pub Parses : {A : Type 0} → ℕ → Format A → ℕ → List Piece → A → Type 0
Parses S (ends a) at [] b = a ≡ b
Parses S (ends a) at (p ∷ ps) b = ⊥
Parses S (stops r) at ps b = ⊥
Parses S (takes w next) at [] b = ⊥
Parses S (takes w next) at (p ∷ ps) b = (p.width ≡ w) × (p.code < 2 ^ w) × Parses S (next p.code) (at + w) ps b
Parses S (looks next) at ps b = Parses S (next at (S - at)) at ps b

pub parses-fit : {A : Type 0} (S : ℕ) (f : Format A) (at : ℕ) (ps : List Piece) (b : A) → Parses S f at ps b → Fit ps
parses-fit S (ends a) at [] b l = tt
parses-fit S (ends a) at (p ∷ ps) b l = absurd l
parses-fit S (stops r) at ps b l = absurd l
parses-fit S (takes w next) at [] b l = absurd l
parses-fit S (takes w next) at (p ∷ ps) b l =
    (subst (λ (n : ℕ). p.code < 2 ^ n) (sym l.0) l.1, parses-fit S (next p.code) (at + w) ps b l.2)
parses-fit S (looks next) at ps b l = parses-fit S (next at (S - at)) at ps b l

-- A stream that holds such pieces parses to b.
pub parse-held : {A : Type 0} (s : Stream) (f : Format A) (at : ℕ) (ps : List Piece) (b : A) → Parses s.bits f at ps b →
    Holds s.number at ps → at + needed ps ≤ s.bits → parse s f at ≡ Ok (parsed b (at + needed ps))
parse-held s (ends a) at [] b l h m = ap₂ (λ x n. Ok (parsed x n)) l (omega arith)
parse-held s (ends a) at (p ∷ ps) b l h m = absurd l
parse-held s (stops r) at ps b l h m = absurd l
parse-held s (takes w next) at [] b l h m = absurd l
parse-held s (takes w next) at (p ∷ ps) b l h m =
    let fits : p.code < 2 ^ p.width = subst (λ (n : ℕ). p.code < 2 ^ n) (sym l.0) l.1 in
    let u = holds-uncons s.number at p ps fits h in
    let e : field_at s.number at w ≡ p.code = ap (λ (n : ℕ). field_at s.number at n) (sym l.0) ∙ u.1 in
    let g : Holds s.number (at + w) ps = subst (λ (n : ℕ). Holds s.number (at + n) ps) l.0 u.0 in
    ap₂ (λ t c. cond t (Err (PastEnd at)) (parse s (next c) (at + w))) (le-ltb s.bits (at + w) (omega (arith, l.0))) e
    ∙ parse-held s (next p.code) (at + w) ps b l.2 g (omega (arith, l.0))
    ∙ ap (λ (n : ℕ). Ok (parsed b n)) (omega (arith, l.0))
parse-held s (looks next) at ps b l h m = parse-held s (next at (s.bits - at)) at ps b l h m

-- The pieces that a stream was parsed by.
pub record ParsedBy {A : Type 0} (s : Stream) (f : Format A) (at : ℕ) (x : Parsed A) : Type 0 where
  pub pieces : List Piece
  pub parses : Parses s.bits f at pieces x.found
  pub holds : Holds s.number at pieces
  pub behind : at + needed pieces ≡ x.next
  pub inside : x.next ≤ s.bits

passed : {A : Type 0} (t : Bool) (r : Refusal) (m : Outcome A) (a : A) → cond t (Err r) m ≡ Ok a → (t ≡ false) × (m ≡ Ok a)
passed true r m a e = absurd (let z : ◌≡◌ {A = ℕ} 0 1 = cc in omega arith)
passed false r m a e = (refl, e)

pub parsed-by : {A : Type 0} (s : Stream) (f : Format A) (at : ℕ) (x : Parsed A) → at ≤ s.bits → parse s f at ≡ Ok x → ParsedBy s f at x
parsed-by s (ends a) at x l e =
    let e0 : a ≡ x.found = cc in
    let e1 : at ≡ x.next = cc in
    record { pieces = []; parses = e0; holds = holds-nil s.number at; behind = omega arith; inside = omega arith }
parsed-by s (stops r) at x l e = absurd (let z : ◌≡◌ {A = ℕ} 0 1 = cc in omega arith)
parsed-by s (takes w next) at x l e =
    let c : ℕ = field_at s.number at w in
    let g = passed (ltb s.bits (at + w)) (PastEnd at) (parse s (next c) (at + w)) x e in
    let k = parsed-by s (next c) (at + w) x (ltb-false s.bits (at + w) g.0) g.1 in
    record {
      pieces = piece w c ∷ k.pieces;
      parses = (refl, field_lt s.number at w, k.parses);
      holds = holds-cons s.number at (piece w c) k.pieces refl k.holds;
      behind = omega (arith, k.behind);
      inside = k.inside;
    }
parsed-by s (looks next) at x l e =
    let k = parsed-by s (next at (s.bits - at)) at x l e in
    record { pieces = k.pieces; parses = k.parses; holds = k.holds; behind = k.behind; inside = k.inside }

-- The bits after the end of a parse are free: streams that agree up to there parse alike.
pub parse-agrees : {A : Type 0} (s : Stream) (M : ℕ) (f : Format A) (at : ℕ) (x : Parsed A) → at ≤ s.bits → parse s f at ≡ Ok x →
    s.number % 2 ^ x.next ≡ M % 2 ^ x.next → parse (record { bits = s.bits; number = M }) f at ≡ Ok x
parse-agrees s M f at x l e agree =
    let w = parsed-by s f at x l e in
    let m : Holds M at w.pieces = holds-mod s.number M x.next agree at w.pieces (omega (arith, w.behind)) w.holds in
    parse-held (record { bits = s.bits; number = M }) f at w.pieces x.found w.parses m (omega (arith, w.behind, w.inside))
    ∙ ap (λ (n : ℕ). Ok (parsed x.found n)) w.behind

-- ---- pieces by one format and then another

pub parses-bind : {A B : Type 0} (S : ℕ) (m : Format A) (k : A → Format B) (at : ℕ) (ps qs : List Piece) (a : A) (b : B) →
    Parses S m at ps a → Parses S (k a) (at + needed ps) qs b → Parses S (m >>= k) at (ps ++ qs) b
parses-bind S (ends c) k at [] qs a b l g =
    let z : at + 0 ≡ at = omega arith in
    subst (λ x. Parses S (k x) at qs b) (sym l) (subst (λ (n : ℕ). Parses S (k a) n qs b) z g)
parses-bind S (ends c) k at (p ∷ ps) qs a b l g = absurd l
parses-bind S (stops r) k at ps qs a b l g = absurd l
parses-bind S (takes w step) k at [] qs a b l g = absurd l
parses-bind S (takes w step) k at (p ∷ ps) qs a b l g =
    let z : at + (needed ps + p.width) ≡ at + w + needed ps = omega (arith, l.0) in
    (l.0, l.1, parses-bind S (step p.code) k (at + w) ps qs a b l.2 (subst (λ (n : ℕ). Parses S (k a) n qs b) z g))
parses-bind S (looks step) k at ps qs a b l g = parses-bind S (step at (S - at)) k at ps qs a b l g

pub record Halves {A B : Type 0} (S : ℕ) (m : Format A) (k : A → Format B) (at : ℕ) (ps : List Piece) (b : B) : Type 0 where
  pub first : List Piece
  pub second : List Piece
  pub middle : A
  pub joined : first ++ second ≡ ps
  pub front : Parses S m at first middle
  pub back : Parses S (k middle) (at + needed first) second b

pub parses-halves : {A B : Type 0} (S : ℕ) (m : Format A) (k : A → Format B) (at : ℕ) (ps : List Piece) (b : B) →
    Parses S (m >>= k) at ps b → Halves S m k at ps b
parses-halves S (ends a) k at ps b l =
    let z : at ≡ at + 0 = omega arith in
    record { first = []; second = ps; middle = a; joined = refl; front = refl; back = subst (λ (n : ℕ). Parses S (k a) n ps b) z l }
parses-halves S (stops r) k at ps b l = absurd l
parses-halves S (takes w step) k at [] b l = absurd l
parses-halves S (takes w step) k at (p ∷ ps) b l =
    let h = parses-halves S (step p.code) k (at + w) ps b l.2 in
    let z : at + w + needed h.first ≡ at + (needed h.first + p.width) = omega (arith, l.0) in
    record {
      first = p ∷ h.first;
      second = h.second;
      middle = h.middle;
      joined = ap (λ q. p ∷ q) h.joined;
      front = (l.0, l.1, h.front);
      back = subst (λ (n : ℕ). Parses S (k h.middle) n h.second b) z h.back;
    }
parses-halves S (looks step) k at ps b l =
    let h = parses-halves S (step at (S - at)) k at ps b l in
    record { first = h.first; second = h.second; middle = h.middle; joined = h.joined; front = h.front; back = h.back }

-- ---- steps that take no bits

pub ends-pieces : {A : Type 0} (S : ℕ) (a : A) (at : ℕ) (ps : List Piece) (b : A) → Parses S (ends a) at ps b → (ps ≡ []) × (a ≡ b)
ends-pieces S a at [] b l = (refl, l)
ends-pieces S a at (p ∷ ps) b l = absurd l

pub refuse-pieces : {B : Type 0} (S : ℕ) (r : Refusal) (t : Bool) (next : Format B) (at : ℕ) (ps : List Piece) (b : B) →
    Parses S (reject r if t >> next) at ps b → (t ≡ false) × Parses S next at ps b
refuse-pieces S r true next at ps b l = absurd l
refuse-pieces S r false next at ps b l = (refl, l)

-- A value made of what a format reads and of the place after it.
pub parses-made : {A B : Type 0} (S : ℕ) (m : Format A) (g : A → B) (at : ℕ) (ps : List Piece) (a : A) →
    Parses S m at ps a → Parses S (m >>= λ x. ends (g x)) at ps (g a)
parses-made S m g at ps a l =
    subst (λ q. Parses S (m >>= λ x. ends (g x)) at q (g a)) (append-nil ps) (parses-bind S m (λ x. ends (g x)) at ps [] a (g a) l refl)

pub made-pieces : {A B : Type 0} (S : ℕ) (m : Format A) (g : A → B) (at : ℕ) (ps : List Piece) (b : B) →
    Parses S (m >>= λ x. ends (g x)) at ps b → (a : A) × (g a ≡ b) × Parses S m at ps a
made-pieces S m g at ps b l =
    let h = parses-halves S m (λ x. ends (g x)) at ps b l in
    let (z, e) = ends-pieces S (g h.middle) 0 h.second b h.back in
    let f : h.first ≡ ps = sym (append-nil h.first) ∙ ap (λ q. h.first ++ q) (sym z) ∙ h.joined in
    (h.middle, e, subst (λ q. Parses S m at q h.middle) f h.front)

-- ---- a code that has to be the expected one

pub fixed-pieces : {B : Type 0} (S w c : ℕ) (r : Refusal) (next : Format B) (at : ℕ) (ps : List Piece) (b : B) →
    Parses S (bits w >>= λ code. reject r if not (eqb code c) >> next) at ps b →
    (behind : List Piece) × (ps ≡ piece w c ∷ behind) × Parses S next (at + w) behind b
fixed-pieces S w c r next at [] b l = absurd l
fixed-pieces S w c r next at (p ∷ ps) b l =
    let k = refuse-pieces S r (not (eqb p.code c)) next (at + w) ps b l.2 in
    let e : p.code ≡ c = eqb-true p.code c (not-false _ k.0) in
    let q : p ≡ piece w c = λ i. record { width = l.0 i; code = e i } in
    (ps, ap (λ x. x ∷ ps) q, k.1)
