-- What the proofs of this crate take from the kit, from the crates below and from its own definitions.
pub use Prim.Native.Nat.{◌%◌, ◌*◌, ◌+◌, ◌-◌, ◌/◌, ◌<◌, ◌^◌, ◌≤◌, suc, zero, ℕ}
pub use mathlib.Core.{Bool.Bool, Bool.◌&&◌, Bool.cond, Bool.false, Bool.not, Bool.true, Bool.true≢false, List.List, List.[], List.◌++◌, List.◌∷◌, Path.◌∙◌, Path.◌≡◌, Path.ap, Path.ap₂, Path.refl, Path.subst, Path.sym}
pub use native.Mathlib.Nat.{add_assoc, add_comm, add-mul, add-sub_cancel_left, add-zero, le_refl, mod-eq_of_lt, mod-lt, mod-one, mul_assoc, sub-zero, zero-add, zero-div}
pub use native.Mathlib.{Decide.dec_lt, Decide.ℕ_discrete, Numerals.add-one, Omega.arith}
pub use lib.ListN.{get_or-append, get_or-eq_default, drop, get_or, length, length-append, length-drop, length-set, set, take, take-append-drop}
pub use lib.Seq.{drop_at, drop-cons, drop-drop, drop-length, drop-set-lt, ext_get_or, get_or-append-add, get_or-drop, get_or-set_other, get_or-set_same, get_or-take, length-take-le, take-add, take_at, take-set-le}
pub use lib.{Arith.digits_lt, Arith.lt_of_le-ne, Dec.eqb, Pow.field, Pow.high, Pow.low, Pow.mod-mod-pow, Pow.mod-pow-add, Pow.pow-add, Pow.pow_pos, Pow.shr_lt, Pow.shr-shr, Pow.split}
pub use borrow.Author.{Rules.rules, Tests.eq-eqb, Tests.eqb-true, Tests.le-ltb, Tests.lt-ltb, Tests.ne_eqb, Tests.not-false, Tests.not-true}
pub use Rattle.refusal.proofs.Outcomes.{Other, bind-good, both, chosen, good-bind, good-same, no_value_lem, other-then, passed}
pub use Rattle.refusal.specs.{Outcome.◌>>◌, Outcome.Ok, Outcome.refuse◌if◌, Outcome.Err, declared.Refusal.TheVariants.BlankChip, declared.Refusal.TheVariants.WrongImage, declared.Refusal.TheVariants.WrongSum, declared.Refusal.Refusal}
pub use Rattle.memory.specs.declared.pages.PageTest.TheVariants.{Blank, Good, Wrong}
pub use Rattle.memory.specs.declared.{Sizes.Sizes}
pub use Rattle.memory.specs.{Answers.WholeImage, Answers.stream_index, Bits.Bytes, Bits.bit, Bits.bytes_of, Bits.field_at, Bits.number, Bits.put_at, Image.SumsRight, Image.all_ff, Image.blank_page}
pub use Rattle.memory.specs.{Image.check_byte, Image.covered, Image.image_bytes, Image.is_good, Image.page, Image.page_at, Image.page_sum, Image.pages_of, Image.pages_stream, Image.part_of, Image.sizes_of, Image.stream_bits}
pub use Rattle.memory.specs.{Image.stream_bytes, Image.stream_number, Image.sums, Image.total, Image.with_right, Laid.pages_with, Laid.put_in, Pieces.Piece, Pieces.needed, Pieces.pack, Pieces.piece}
unfoldable pub use Rattle.memory.specs.{Image.blank_from, Image.image_of, Image.image_sizes, Image.page_bytes, Image.page_test, Image.stream_of, Image.sums_from, Laid.sealed, Laid.with_stream}
pub use Rattle.refusal.specs.Outcome.{Outcome}
