use Rattle.dartelm.proofs.Names.{◌≡◌, refl, sym, ap, ◌∙◌, List, [], ◌∷◌, map, ℕ, zero, suc, ◌<◌, arith, rules, eq-eqb, ne_eqb, length, get_or, length-map, w64, to_z-of_z, Whole, Single, Missing}
use Rattle.dartelm.proofs.Names.{split-none, spread-whole, spread-single, spread-missing, split-all, DartelmValue, value_of, no_value, slot_of}
use Rattle.dartelm.proofs.values.split_values.Goals as goal
use Rattle.dartelm.proofs.values.split_values.Goals.{then-value-ne0, else-value-ne0+then-value-ne0-2, else-value-ne0+else-value-ne0-2}

-- The value of a slot, whatever the default.
handed : (values : List DartelmValue) (i : ℕ) (none : DartelmValue) → i < length values → (get_or (map slot_of values) i (slot_of no_value)).value ≡ value_of (get_or values i none)
handed [] i none h = absurd (omega (arith, h))
handed (v ∷ values) zero none h = refl
handed (v ∷ values) (suc i) none h = handed values i none (omega (arith, h))

module _ (values : List DartelmValue) (i : ℕ) (none : DartelmValue) (h : i < length values) where
  abbrev v : DartelmValue
  v = get_or values i none

  as-missing : (v.is_missing ≡ 0 → ⊥) → (get_or (map slot_of values) i (slot_of no_value)).value ≡ Missing
  as-missing a = handed values i none h ∙ simp (ne_eqb _ _ a)

  as-single : v.is_missing ≡ 0 → (v.is_single ≡ 0 → ⊥) → (get_or (map slot_of values) i (slot_of no_value)).value ≡ Single v.single
  as-single a b = handed values i none h ∙ simp (eq-eqb _ _ a, ne_eqb _ _ b)

  as-whole : v.is_missing ≡ 0 → v.is_single ≡ 0 → (get_or (map slot_of values) i (slot_of no_value)).value ≡ Whole v.whole
  as-whole a b = handed values i none h ∙ simp (eq-eqb _ _ a, eq-eqb _ _ b)

pub loop-i-init : goal.loop-i-init
loop-i-init c = split-none c.requires

pub loop-i-preserved : goal.loop-i-preserved
loop-i-preserved c =
    let values = c.args.given.values in
    let n : length values ≡ 21 = c.well_formed.0.1.1.0.1.0.1 in
    let s = c.loop-i.invariant in
    let h = c.loop-i-test.true in
    elim c.if-value-ne0.branch [
      | then-value-ne0 w ↦ rw (w.tags-is, w.wholes-is, w.singles-is) (spread-missing s h (as-missing values _ _ (omega (arith, n, h)) w.if-value-ne0.true))
      | else-value-ne0+then-value-ne0-2 w ↦
          rw (w.tags-is, w.wholes-is, w.singles-is) (spread-single s h (as-single values _ _ (omega (arith, n, h)) w.if-value-ne0.false w.if-value-ne0-2.true))
      | else-value-ne0+else-value-ne0-2 w ↦
          rw (w.tags-is, w.wholes-is, w.singles-is)
          (spread-whole s h (as-whole values _ _ (omega (arith, n, h)) w.if-value-ne0.false w.if-value-ne0-2.false ∙ ap Whole (sym (to_z-of_z {w = w64} (search rules)))))
    ]

pub returns : goal.returns
returns c = split-all c.loop-i.invariant c.loop-i-test.false (length-map c.args.given.values slot_of ∙ c.well_formed.0.1.1.0.1.0.1)
