-- What the proofs of this crate take from the kit, from the crates below and from its own definitions.
pub use Prim.Native.Nat.{◌%◌, ◌*◌, ◌+◌, ◌-◌, ◌/◌, ◌<◌, ◌^◌, ◌≤◌, suc, zero, ℕ}
pub use mathlib.Core.{Bool.Bool, Bool.cond, Bool.false, Bool.true, List.List, List.[], List.◌++◌, List.◌∷◌, List.append_assoc, List.append-nil, Path.◌∙◌, Path.◌≡◌, Path.ap, Path.refl, Path.sym}
pub use native.Mathlib.Nat.{add-mul, add-mul-div_right, add-mul-mod_self_right, div-eq_of_lt, lt_of_le_of_lt, mod-add-div', mod-eq_of_lt, mod-one, mul_assoc, mul-div_cancel_left, mul-le-mul, mul-le-mul_left}
pub use native.Mathlib.Nat.{mul_left_comm, mul-one, mul_right_comm, one-le-pow, pow-le-pow_right, pow-zero}
pub use native.Mathlib.{Decide.dec_lt, Numerals.add-one, Omega.arith, Omega.pow_step}
pub use lib.ListN.{drop, drop_of_length-le, get_or, length, length-set, set, take}
pub use lib.{Arith.mod-mul, Dec.eqb, Dec.leb, Dec.ltb, Dec.ltb→lt, Ieee.binary32, Pow.pow-add, Seq.drop-cons, Seq.drop-length, Seq.drop-set-lt, Seq.take_all, Seq.take-suc-set}
unfoldable pub use lib.Ieee.{odd, of_bits, of_fields}
pub use borrow.Author.{Rules.rules, Tests.eq-eqb, Tests.le-leb, Tests.le-ltb, Tests.lt-leb, Tests.lt-ltb, Tests.ltb-false, Tests.ltb-true, Tests.ne_eqb}
pub use Rattle.codes.proofs.FloatLaws.{not-nan}
pub use Rattle.templates.{proofs.TemplateFacts.last-most, specs.declared.Template.Template, specs.declared.Template.TheVariants.Bridge, specs.declared.Template.TheVariants.Resistance}
pub use Rattle.listing.specs.declared.singles.Shape.TheVariants.{Behind, Lowered, Raised, Split, Whole}
pub use Rattle.listing.specs.{Digits.Becomes, Digits.Digits, Digits.Highest, Digits.number, Rounding.Rounds, Rounding.exact, Rounding.upward, Singles.Shapes, Texts.date_field}
pub use Rattle.refusal.specs.{Outcome.Err, declared.Refusal.Refusal}
pub use Rattle.listing.specs.Listing.{character, field, point, segment, taken, term}
