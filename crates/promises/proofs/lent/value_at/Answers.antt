use Rattle.promises.proofs.Names.{sym, ap, ◌∙◌, arith, w64, to_z-of_z, ℤ, pos, nan, get_or, Whole, value_of_sort}
use Rattle.promises.proofs.LentLaws.{missing-sort, value_out, value_in}
use Rattle.promises.proofs.lent.value_at.Goals as goal

pub returns-then-i-tags : goal.returns-then-i-tags
returns-then-i-tags c = let a = c.args in (value_out a.tags.now a.wholes.now a.singles.now a.i (λ h i j. omega arith), tt)

pub returns-then-i-wholes : goal.returns-then-i-wholes
returns-then-i-wholes c = let a = c.args in (value_out a.tags.now a.wholes.now a.singles.now a.i (λ h i j. omega arith), tt)

pub returns-then-i-singles : goal.returns-then-i-singles
returns-then-i-singles c = let a = c.args in (value_out a.tags.now a.wholes.now a.singles.now a.i (λ h i j. omega arith), tt)

pub returns-in-0 : goal.returns-in-0
returns-in-0 c =
    let a = c.args in
    let x : ℤ = get_or a.wholes.now a.i (pos 0) in (
      ap (λ (z : ℤ). Whole z) (to_z-of_z {w = w64} {z = x} (record { sfits = c.result-1.given }))
          ∙ ap (λ n. value_of_sort n x (get_or a.singles.now a.i nan)) (sym c.in-0.is)
          ∙ value_in a.tags.now a.wholes.now a.singles.now a.i (omega arith) (omega arith) (omega arith),
      tt,
    )

pub returns-in-1 : goal.returns-in-1
returns-in-1 c =
    let a = c.args in (
      ap (λ n. value_of_sort n (get_or a.wholes.now a.i (pos 0)) (get_or a.singles.now a.i nan)) (sym c.in-1.is)
          ∙ value_in a.tags.now a.wholes.now a.singles.now a.i (omega arith) (omega arith) (omega arith),
      c.type_inv.singles a.i,
    )

pub returns-in_default : goal.returns-in_default
returns-in_default c =
    let a = c.args in (
      missing-sort _ _ _ c.in_default.in_default-own.rest.0.1 c.in_default.in_default-own.rest.1
          ∙ value_in a.tags.now a.wholes.now a.singles.now a.i (omega arith) (omega arith) (omega arith),
      tt,
    )
