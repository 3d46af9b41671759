-- Laws of rows that can hold every code, by one computed test over a run of fields.
use Rattle.templates.proofs.Names.{◌≡◌, refl, subst, Bool, true, false, ◌&&◌, cond, ℕ, ◌+◌, ◌-◌, ◌^◌, ◌≤◌, ◌<◌, arith, eqb-false, le-ltb, T, eqb, leb, eqb→eq, leb→le, and_yes, Ok, ◌>>◌, Missing, Rule, Plain}
use Rattle.templates.proofs.Names.{Stepped, Geometric, Ieee, Row, Template, all_ones, top_code, meaning, decode, line_of, Open}
use Rattle.codes.proofs.Table.{each, at}

-- The test: a plain rule takes 0 to all ones; any rule but
-- Single takes up to all ones less one if all ones is missing.
abbrev opens : Rule → ℕ → Bool → Bool
opens (Plain least greatest) w missing = eqb least 0 && leb (all_ones w) (greatest + cond missing 1 0)
opens (Stepped start step) w missing = missing
opens (Geometric scale) w missing = missing
opens Ieee w missing = false

abbrev pub is_open : Row → Bool
is_open row = opens row.rule row.width row.missing

module _ (w at code : ℕ) (h : code < 2 ^ w) where
  abbrev Stood : Rule → Bool → Type 0
  Stood rule missing = (cond (missing && eqb code (all_ones w)) (Ok Missing) (meaning rule w at code) >> Ok (tt {0})) ≡ Ok tt

  -- All ones is missing, and the row can hold every other code.
  optional : (rule : Rule) → ((code ≡ all_ones w → ⊥) → (meaning rule w at code >> Ok (tt {0})) ≡ Ok tt) → Stood rule true
  optional rule others = go (eqb code (all_ones w)) refl
    where
      go : (b : Bool) → eqb code (all_ones w) ≡ b → (cond b (Ok Missing) (meaning rule w at code) >> Ok (tt {0})) ≡ Ok tt
      go true e = refl
      go false e = others (eqb-false code (all_ones w) e)

  plain : (least greatest : ℕ) → least ≡ 0 → code ≤ greatest → (meaning (Plain least greatest) w at code >> Ok (tt {0})) ≡ Ok tt
  plain least greatest l g = rw (l, le-ltb code 0 (omega arith), le-ltb greatest code g)

  stood : (rule : Rule) (missing : Bool) → T (opens rule w missing) → Stood rule missing
  stood (Plain least greatest) true t =
      let (l, g) = and_yes (eqb least 0) (leb (all_ones w) (greatest + 1)) t in
      optional (Plain least greatest) (λ n. plain least greatest (eqb→eq least 0 l) (omega (arith, leb→le (all_ones w) (greatest + 1) g, n)))
  stood (Plain least greatest) false t =
      let (l, g) = and_yes (eqb least 0) (leb (all_ones w) (greatest + 0)) t in
      plain least greatest (eqb→eq least 0 l) (omega (arith, leb→le (all_ones w) (greatest + 0) g))
  stood (Stepped start step) true t = optional (Stepped start step) (λ n. rw (le-ltb (top_code w) code (omega (arith, n))))
  stood (Geometric scale) true t = optional (Geometric scale) (λ n. rw (le-ltb (top_code w) code (omega (arith, n))))
  stood (Stepped start step) false t = absurd t
  stood (Geometric scale) false t = absurd t
  stood Ieee missing t = absurd t

pub row_open : (row : Row) → T (is_open row) → Open row
unfolding decode
row_open row t at code h = stood row.width at code h row.rule row.missing t

-- Fields `first` to `first + n` can hold every code, if the test holds.
pub open_in : (t : Template) (first n : ℕ) → ((latest : ℕ) → T (each (λ k. is_open ((line_of t (first + k)).row_at latest)) n)) →
    (latest f : ℕ) → first ≤ f → f ≤ first + n → Open ((line_of t f).row_at latest)
open_in t first n test latest f lo hi =
    let e : first + (f - first) ≡ f = omega arith in
    subst (λ (g : ℕ). Open ((line_of t g).row_at latest)) e
    (row_open _ (at (λ k. is_open ((line_of t (first + k)).row_at latest)) n (f - first) (test latest) (omega arith)))
