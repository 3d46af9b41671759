-- What the proofs of this crate take from the kit, from the crates below and from its own definitions.
pub use Prim.Native.Nat.{◌%◌, ◌*◌, ◌+◌, ◌-◌, ◌/◌, ◌<◌, ◌≤◌, suc, zero, ℕ}
pub use mathlib.Core.{Bool.Bool, Bool.◌&&◌, Bool.◌||◌, Bool.cond, Bool.false, Bool.not, Bool.true, Bool.true≢false, List.List, List.[], List.◌∷◌, Path.◌∙◌, Path.◌≡◌, Path.ap, Path.ap₂, Path.refl, Path.subst, Path.sym}
pub use native.Mathlib.{Numerals.add-one, Omega.arith}
pub use lib.{Dec.eqb, IntN.pos, IntN.ℤ, ListN.drop, ListN.get_or, ListN.length, ListN.length-drop, Seq.drop-cons}
pub use mir.{Facts.to_z-of_z, Syntax.w64, Val.SFits, Val.of_z, Val.to_z}
pub use borrow.Author.{Rules.rules, Tests.eq-eqb, Tests.eqb-false, Tests.eqb-true, Tests.ne_eqb, Tests.not-false, Tests.not-true}
pub use Rattle.std.proofs.lemmas.Bool.Decides.{Decides-eqb, Decides-int_eq, Decides-like, same_from_decides}
pub use Rattle.std.specs.Ordering.{int_eq}
pub use Rattle.refusal.proofs.Outcomes.{both, exits, good-same, neither, said_of, same_of}
pub use Rattle.refusal.specs.{Outcome.Outcome, Outcome.Ok, Outcome.Err, declared.Refusal.TheVariants.WrongTicks, declared.Refusal.Refusal}
pub use Rattle.layout.specs.{Contents.Contents, Image.contents}
pub use Rattle.sheet.{proofs.OpenLaws.held, proofs.OpenLaws.not_opened, proofs.OpenLaws.opens, specs.Opened.Opens}
pub use Rattle.reading.specs.{Reading.take_reading, declared.Dash.TheVariants.Large, declared.Reading.Reading}
pub use Rattle.recordings.specs.Agreement.{Agrees, AgreesExactly, EmptyAgree, FailsFirst, FirstFailing, Right, Shown}
pub use Rattle.recordings.specs.Recordings.{never, pairs, refresh, refreshes, shows, shows_by, unlike}
pub use Rattle.recordings.specs.declared.{Compared.Compared, Compared.TheVariants.Agree, Compared.TheVariants.Tick, Refresh.Refresh}
pub use Rattle.recordings.specs.Ticks.{refresh_at}
unfoldable pub use Rattle.recordings.specs.Recordings.{compare, compared_from, right}
