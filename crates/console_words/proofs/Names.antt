-- What the proofs of this crate take from the kit, from the crates below and from its own definitions.
pub use Prim.Native.Nat.{◌%◌, ◌*◌, ◌+◌, ◌-◌, ◌/◌, ◌<◌, ◌^◌, ◌≤◌, suc, zero, ℕ}
pub use mathlib.Core.Bool.{Bool, ◌&&◌, ◌||◌, cond, false, false≢true, true, true≢false}
pub use Rattle.std.proofs.lemmas.Option.{none-some, same_Some}
pub use Rattle.std.specs.Option.{is_none, option_map, unwrap_or}
pub use Rattle.std.proofs.lemmas.List.{get_or-take, FromFn.get_or-enumerate_from, FromFn.length-enumerate_from, Splits.length-slice_split, Splits.slice_split_first, Splits.slice_split_none, Sums.count_by_more_no, Sums.count_by_more_yes, Sums.fails_before_first}
pub use Rattle.std.specs.List.{count_by, enumerate_from, list_any, onto_first, position_or_len, slice_get, slice_split}
pub use Rattle.std.proofs.lemmas.Option.{unwrap_or-slice_get}
pub use denote.Ref.{Bor}
pub use Rattle.std.proofs.lemmas.Iterator.{Consumers.nth_from_yields_List, Consumers.YieldsList-at, Consumers.YieldsList-from_enumerate, Consumers.YieldsList-turn, Consumers.YieldsList-end, Splits.YieldsList-from_slice_split, Search.any_from_yields_List, Search.position_from_yields_List}
pub use Rattle.std.proofs.lemmas.Iterator.{YieldsList-from_slice, YieldsList-from_take}
pub use Rattle.std.specs.declared.option.Option.{Option, TheVariants.None, TheVariants.Some}
pub use mathlib.Core.{List.List, List.[], List.◌++◌, List.◌∷◌, List.append_assoc, List.append-nil, List.map, Logic.⊎_elim, Path.◌∙◌, Path.◌≡◌, Path.ap, Path.refl, Path.subst, Path.sym}
pub use native.Mathlib.{Nat.le_of_lt, Nat.sub-zero, Numerals.add-one, Omega.arith}
pub use lib.Ieee.{Bits.nan_bits_above, Bits.nan_bits_is, Float, binary32, fin, inf, nan}
pub use lib.ListN.{get_or-map, length-append, drop, drop_of_length-le, get_or, length, length-drop, length-map, length-set, set, take, take-append-drop}
pub use lib.{Dec.T, Dec.eqb, Dec.ltb, IntN.neg_ℤ, IntN.pos, IntN.sub_ℕ, IntN.ℤ, Seq.drop-cons, Seq.drop-drop, Seq.drop-length, Seq.drop-set-lt, Seq.length-take-le, Seq.take_all, Seq.take-suc-set}
unfoldable pub use lib.Ieee.{div, is_nan, odd, of_bits, of_fields}
pub use mir.{Facts.to_z-of_z, Syntax.w64}
pub use borrow.Author.{Rules.rules, Tests.eq-eqb, Tests.eqb-true, Tests.le-leb, Tests.le-ltb, Tests.lt-leb, Tests.lt-ltb, Tests.ltb-false, Tests.ltb-true, Tests.ne_eqb, Tests.tests}
pub use Rattle.codes.specs.declared.Value.{Value, TheVariants.Missing, TheVariants.Single, TheVariants.Whole}
pub use Rattle.console_words.specs.Figures.{above, all_digits, below, figure, figures, is_digit, longer, number, spelling}
pub use Rattle.console_words.specs.Hexadecimal.{byte_of, bytes, counts, digit_of, digits, paired, spelt, value_of}
pub use Rattle.console_words.specs.Said.{Held, begun, counted, every, filled, filled_said, fits, is_whole, one, says◌if◌, written}
pub use Rattle.console_words.specs.Values.{high_first, single, value}
pub use Rattle.console_words.specs.Words.{before, is_minus, piece_at, piece_count, pieces}
