-- What the proofs of this crate take from the kit, from the crates below and from its own definitions.
pub use Prim.Native.Nat.{◌%◌, ◌*◌, ◌+◌, ◌-◌, ◌/◌, ◌<◌, ◌≤◌, suc, zero, ℕ}
pub use mathlib.Core.Bool.{Bool, ◌&&◌, cond, false, not, true, true≢false}
pub use mathlib.Core.{List.List, List.[], List.◌++◌, List.◌∷◌, Logic.◌⊎◌, Logic.inl, Logic.inr, Path.◌∙◌, Path.◌≡◌, Path.ap, Path.refl, Path.sym}
pub use native.Mathlib.{Decide.dec_lt, Decide.ℕ_discrete, Nat.zero-add, Numerals.add-one, Omega.arith}
pub use lib.ListN.{get_or-eq_default, drop, get_or, length, length-append, length-drop, length-set, length-take, set, take}
pub use lib.{Dec.eqb, Dec.ltb, Seq.drop-set-add, Seq.ext_get_or, Seq.get_or-drop, Seq.get_or-set_other, Seq.get_or-set_same, Seq.get_or-take, Seq.length-take-le, Seq.take_all, Seq.take-set-lt}
pub use borrow.Author.{Tests.eq-eqb, Tests.eqb-false, Tests.eqb-true, Tests.le-ltb, Tests.lt-ltb, Tests.ltb-false, Tests.ltb-true, Tests.ne_eqb, Tests.not-false, Tests.not-true}
pub use Rattle.refusal.proofs.Outcomes.{bind-good, bind-refused, both, exits, good-bind, good-same, neither, no_value_lem, passed}
pub use Rattle.refusal.specs.{Outcome.Outcome, Outcome.Ok, Outcome.Err, declared.Refusal.TheVariants.WrongImage, declared.Refusal.Refusal}
pub use Rattle.memory.proofs.{Chips.sizes-chip, Streams.get_d_front, Streams.get_d_past, SumLaws.sums-right, SumLaws.total-append}
pub use Rattle.memory.specs.{Bits.Bytes, Image.SumsRight, Image.image_bytes, Image.page_at, Image.page_sum, Image.sizes_of, Image.sums, Image.total, declared.Sizes.Sizes}
unfoldable pub use Rattle.memory.specs.Image.{image_sizes}
pub use Rattle.layout.{proofs.Accepted.contents-accepted, specs.Contents.Contents, specs.Image.contents}
pub use Rattle.sheet.specs.{Check.summary, declared.Summary.Summary}
unfoldable pub use Rattle.sheet.specs.Check.{check}
pub use Rattle.writing.specs.Answers.{Fits, answered, last_for, row_at, tallied, tally_to, to_write}
pub use Rattle.writing.specs.Steps.{Step, adds_up, check_row, covered_rows, differing, differs, done, last_other, last_row, raise_by, raised, row, rows, write, write_row, written}
pub use Rattle.writing.specs.{Chip.Changes, Chip.Refuses, Chip.Torn, Chip.WantedOrRefused, Chip.after, Numbers.count, Numbers.last, declared.rows.Tally.Tally}
unfoldable pub use Rattle.writing.specs.Steps.{invalidate_first, next_row, one_page, same, several_pages, step, sum_ahead, unsealed}
pub use Rattle.std.specs.Prelude.{Option, None, Some}
pub use Rattle.std.specs.{Cmp.Lexicographic.pointwise, Prelude.nat_eq}
pub use Rattle.std.proofs.lemmas.Slice.Eq.{slice_eq-Decides}
