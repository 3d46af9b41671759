-- What the proofs of this crate take from the kit, from the crates below and from its own definitions.
pub use Prim.Native.Nat.{◌%◌, ◌*◌, ◌+◌, ◌-◌, ◌/◌, ◌<◌, ◌^◌, ◌≤◌, suc, zero, ℕ}
pub use mathlib.Core.{Bool.Bool, Bool.cond, Bool.false, Bool.not, Bool.true, Path.◌∙◌, Path.◌≡◌, Path.ap, Path.refl, Path.subst, Path.sym}
pub use native.Mathlib.Nat.{div-add-mod', div-le_self, div-lt_iff_lt-mul, le-mul_of_pos_right, le_of_mul-le-mul_right, lt_of_mul-lt-mul_right, mod-lt, mul-le-mul_right, mul-lt-mul_of_pos_right}
pub use native.Mathlib.Omega.{arith}
pub use lib.IntN.{◌*ℤ◌, ◌+ℤ◌, ◌-ℤ◌, nat_abs, negsuc, neg_ℤ, pos, sub_ℕ, ℤ}
pub use lib.{Dec.T, Dec.leb-zero as leb-zero, Dec.leb→le, Dec.ltb, Dec.ltb→lt, Dec.nleb→lt, Dec.nltb→le, Signed.◌<ℤ◌, Signed.◌≤ℤ◌, Signed.le_z, Signed.lt_z}
pub use mir.{Facts.to_z-neg, Facts.to_z-of_z, Facts.to_z_pos, Syntax.Width, Syntax.w64, Val.SFits, Val.hbits, Val.of_z, Val.to_z}
pub use borrow.Author.{Rules.rules, Rules.sfits_of, Tests.le-leb, Tests.le-ltb, Tests.lt-leb, Tests.lt-ltb}
pub use Rattle.integers.specs.{Ceiling.ceiling, Nearest.Fraction, Nearest.◌over◌, Nearest.floor, Parts.InRange, Parts.dn, Parts.up}
unfoldable pub use Rattle.integers.specs.Nearest.{nearest}
