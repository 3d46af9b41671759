-- What the proofs of this crate take from the kit, from the crates below and from its own definitions.
pub use Prim.Native.Nat.{◌-◌, ◌≤◌}
pub use mathlib.Core.Path.{◌∙◌, ◌≡◌, sym}
pub use native.Mathlib.Omega.{arith}
pub use lib.ListN.{length}
pub use borrow.Author.Rules.{rules}
pub use Rattle.tray_report.proofs.{LineLaws.line-long, StepLaws.ran-initial, StepLaws.ran_on, StepLaws.ran_out, StepLaws.run_sound, StepLaws.stepped-fewer}
pub use Rattle.tray_report.specs.Steps.{Ran, steps_left}
