-- What the proofs of this crate take from the kit, from the crates below and from its own definitions.
pub use Prim.Native.Nat.{◌<◌, ℕ}
pub use mathlib.Core.{Bool.Bool, Bool.◌&&◌, Bool.◌||◌, Bool.cond, Bool.false, Bool.not, Bool.true, Bool.true≢false, List.List, List.[], List.◌∷◌, Path.◌∙◌, Path.◌≡◌, Path.ap, Path.refl, Path.subst, Path.sym}
pub use native.Mathlib.Omega.{arith}
pub use lib.Dec.{eqb}
pub use borrow.Author.Tests.{eqb-true}
pub use Rattle.refusal.specs.{Orders.By, Orders.occurs, Orders.stream_rows, Outcome.Outcome, Outcome.◌>>=◌, Outcome.◌>>◌, Outcome.Ok, Outcome.refuse◌if◌, Outcome.Err, Rows.row_number}
pub use Rattle.refusal.specs.{Written.afterwards, Written.written_said, declared.Refusal.Refusal}
