-- Laws of outcomes: a good outcome shows that its tests
-- passed and its calls succeeded, and those give the outcome.
use Rattle.refusal.proofs.Names.{◌≡◌, refl, sym, ap, ◌∙◌, subst, Bool, true, false, not, cond, ◌||◌, true≢false, ◌&&◌, ◌∷◌, ℕ, ◌<◌, arith, Refusal, Outcome, Ok, Err, ◌>>=◌, ◌>>◌, refuse◌if◌, occurs, By, row_number}
use Rattle.refusal.proofs.Names.{stream_rows}
use Rattle.std.specs.Prelude.{IsErr, IsErrAnd}

pub good-same : {A : Type 0} {a b : A} → ◌≡◌ {A = Outcome A} (Ok a) (Ok b) → a ≡ b
good-same e = cc

-- A refusal is no value.
pub no_value_lem : {A X : Type 0} {r : Refusal} {a : A} → Err r ≡ Ok a → X
no_value_lem e = absurd (let z : ◌≡◌ {A = ℕ} 0 1 = cc in omega arith)

-- Replaces an answer by the case that it is known to be.
pub said_of : {X O : Type 0} (said : X → O) {x y : X} {o : O} → x ≡ y → said x ≡ o → said y ≡ o
said_of said h e = sym (ap said h) ∙ e

-- The same, where the answer is an outcome itself.
pub same_of : {O : Type 0} {x y o : O} → x ≡ y → x ≡ o → y ≡ o
same_of h e = sym h ∙ e

-- The exit of a `?`: the refusal of the call before it.
pub exits : {A : Type 0} {s : Refusal} (r : Outcome A) → IsErr r × IsErrAnd r (λ q. q ≡ s) → r ≡ Err s
exits (Ok a) h = absurd (true≢false (sym h.0))
exits (Err q) h = ap Err h.1

-- ---- from an outcome to its steps

-- If a sequence of calls is good, its first call is good.
pub good-bind : {A B : Type 0} (m : Outcome A) (k : A → Outcome B) (b : B) → (m >>= k) ≡ Ok b → (a : A) × (m ≡ Ok a) × (k a ≡ Ok b)
good-bind (Ok a) k b e = (a, refl, e)
good-bind (Err r) k b e = no_value_lem e

pub good-then : {B : Type 0} (m : Outcome (Unit {0})) (next : Outcome B) (b : B) → (m >> next) ≡ Ok b → (m ≡ Ok tt) × (next ≡ Ok b)
good-then (Ok u) next b e = (refl, e)
good-then (Err r) next b e = no_value_lem e

-- If a test and what follows it are good, the test passed.
pub passed : {B : Type 0} (r : Refusal) (t : Bool) (next : Outcome B) (b : B) → (refuse r if t >> next) ≡ Ok b → (t ≡ false) × (next ≡ Ok b)
passed r true next b e = no_value_lem e
passed r false next b e = (refl, e)

pub not-refused : (r : Refusal) (t : Bool) → (refuse r if t) ≡ Ok tt → t ≡ false
not-refused r true e = no_value_lem e
not-refused r false e = refl

-- If an `or` is false, both its sides are.
pub neither : (s t : Bool) → (s || t) ≡ false → (s ≡ false) × (t ≡ false)
neither true t e = absurd (true≢false e)
neither false t e = (refl, e)

-- If an `and` is true, both its sides are.
pub both : (s t : Bool) → (s && t) ≡ true → (s ≡ true) × (t ≡ true)
both true t e = (refl, e)
both false t e = absurd (true≢false (sym e))

-- ---- from the steps to the outcome

module _ {A B : Type 0} {o : Outcome A} where
  -- A sequence whose first call is known to be good, or refused.
  pub bind-good : {a : A} (f : A → Outcome B) → o ≡ Ok a → (o >>= f) ≡ f a
  bind-good f e = ap (λ m. m >>= f) e

  pub bind-refused : {r : Refusal} (f : A → Outcome B) → o ≡ Err r → (o >>= f) ≡ Err r
  bind-refused f e = ap (λ m. m >>= f) e

  pub then-good : {a : A} (next : Outcome B) → o ≡ Ok a → (o >> next) ≡ next
  then-good next e = ap (λ m. m >> next) e

  pub then-refused : {r : Refusal} (next : Outcome B) → o ≡ Err r → (o >> next) ≡ Err r
  then-refused next e = ap (λ m. m >> next) e

-- A test followed by a value, written as a choice.
pub chosen : {A : Type 0} (a : A) (r : Refusal) (t : Bool) → ((refuse r if not t) >> Ok a) ≡ cond t (Ok a) (Err r)
chosen a r true = refl
chosen a r false = refl

-- Sequences regroup, and equal next steps give equal outcomes.
pub bind_assoc : {A B C : Type 0} (o : Outcome A) (f : A → Outcome B) (g : B → Outcome C) → (o >>= f >>= g) ≡ (o >>= λ a. f a >>= g)
bind_assoc (Ok a) f g = refl
bind_assoc (Err r) f g = refl

pub bind-same : {A B : Type 0} (o : Outcome A) {f g : A → Outcome B} → ((a : A) → f a ≡ g a) → (o >>= f) ≡ (o >>= g)
bind-same (Ok a) h = h a
bind-same (Err r) h = refl

-- The rows of the page sums and of the stream: not 1, not 17, and none that a call adds.
abbrev pub Elsewhere : ℕ → Type 0
Elsewhere n = 0 < occurs n (2 ∷ stream_rows)

-- Accepted, or refused by a row of the page sums or of the stream.
abbrev pub Other : {A : Type 0} → Outcome A → Type 0
Other o = By (2 ∷ stream_rows) o

pub other-cond : {A : Type 0} (t : Bool) (o p : Outcome A) → Other o → Other p → Other (cond t o p)
other-cond true o p h k = h
other-cond false o p h k = k

pub other_test : (r : Refusal) (t : Bool) → Elsewhere (row_number r) → Other (refuse r if t)
other_test r true h = h
other_test r false h = tt

pub other-then : {B : Type 0} (r : Refusal) (t : Bool) (next : Outcome B) → Elsewhere (row_number r) → Other next → Other (refuse r if t >> next)
other-then r true next h k = h
other-then r false next h k = k

pub other-number : {A : Type 0} (o : Outcome A) (r : Refusal) → o ≡ Err r → Other o → Elsewhere (row_number r)
other-number o r e h = subst Other e h
