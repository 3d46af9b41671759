-- What the proofs of this crate take from the kit, from the crates below and from its own definitions.
pub use Prim.Native.Nat.{◌%◌, ◌*◌, ◌+◌, ◌-◌, ◌/◌, ◌<◌, ◌^◌, ◌≤◌, suc, suc-le-suc, zero, zero-le, ℕ}
pub use mathlib.Core.Bool.{Bool, ◌&&◌, ◌||◌, cond, false, not, or-true, true}
pub use mathlib.Core.{List.List, List.[], List.◌∷◌, List.◌++◌, List.foldr, Logic.◌⊎◌, Logic.inl, Logic.inr, Logic.⊎_elim, Path.◌∙◌, Path.◌≡◌, Path.ap, Path.refl, Path.subst, Path.sym}
pub use native.Mathlib.Nat.{div-add-mod', div-div-eq-div-mul, div-lt_iff_lt-mul, eq-or-lt_of_le, le-div_iff_mul-le, le_of_suc-le-suc, le_refl, le_trans, mod-lt, not-suc-le-zero, one-le-pow, pow-suc, suc-mul}
pub use native.Mathlib.{Numerals.add-one, Omega.arith, Omega.by_contra}
pub use lib.ListN.{drop, get_or, length, length-append, replicate, take}
pub use lib.{Dec.T, Dec.eqb, Dec.eqb→eq, Dec.leb, Dec.leb→le, Dec.lit<, Dec.ltb, IntN.pos, Seq.take-append_seam}
pub use Rattle.std.specs.Prelude.{MatchOption, None, Option, Some, unwrap_or}
pub use Rattle.std.specs.List.{AllWithin, HoldsAt}
pub use Rattle.std.proofs.lemmas.Iterator.{IsFirst-from_position, YieldsList-from_slice, first_from_Range}
pub use borrow.Author.{Rules.rules, Tests.eq-eqb, Tests.eqb-false, Tests.eqb-true, Tests.le-ltb, Tests.leb-false, Tests.leb-true, Tests.lt-ltb, Tests.ltb-false, Tests.ltb-true, Tests.ne_eqb, Tests.tests}
pub use Rattle.refusal.proofs.Outcomes.{chosen, neither, no_value_lem}
pub use Rattle.refusal.specs.{Outcome.Outcome, Outcome.◌>>=◌, Outcome.◌>>◌, Outcome.Ok, Outcome.refuse◌if◌, Outcome.Err, declared.Refusal.TheVariants.NoSuch, declared.Refusal.TheVariants.OutOfRange, declared.Refusal.TheVariants.WrongSort, declared.Refusal.Refusal}
pub use Rattle.codes.specs.{Rules.all_ones, declared.Rule.TheVariants.Plain, declared.Value.TheVariants.Whole}
unfoldable pub use Rattle.codes.specs.Rules.{encode}
pub use Rattle.texts.specs.Dates.{Date, days_before_month, days_before_year, days_of_year, leap, month_length, month_lengths}
pub use Rattle.texts.specs.{Letters.letters, Text.same, Text.text_said, Text.texted, Whose.OnlyCode, declared.Text.Text}
unfoldable pub use Rattle.texts.specs.{Dates.date_of, Dates.date_text, Dates.days_of_years, Dates.next, Letters.letters_text, Text.code_of, Text.text_of, Text.whose_text, Whose.code_if_shown}
