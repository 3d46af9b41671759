-- What the proofs of this crate take from the kit, from the crates below and from its own definitions.
pub use Prim.Native.Nat.{◌%◌, ◌*◌, ◌+◌, ◌-◌, ◌/◌, ◌<◌, ◌^◌, ◌≤◌, suc, zero, ℕ}
pub use mathlib.Core.Bool.{Bool, ◌&&◌, cond, false, false≢true, not, true}
pub use mathlib.Core.{List.List, List.[], List.◌++◌, List.◌∷◌, List.append_assoc, List.append-nil, List.map, Path.◌∙◌, Path.◌≡◌, Path.ap, Path.ap₂, Path.refl, Path.subst, Path.sym}
pub use native.Mathlib.{Decide.dec_lt, Nat.pow-le-pow_right, Nat.pow-suc, Nat.sub-zero, Nat.zero-add, Numerals.add-one, Numerals.unary_clauses, Omega.arith}
pub use lib.ListN.{drop, get_or, length, length-append, length-replicate, length-take, replicate, take, take-append-drop}
pub use lib.{Dec.eqb, Dec.ltb, Seq.drop-append-le, Seq.drop_at, Seq.drop-drop, Seq.length-take-le, Seq.take_all, Seq.take_at, Seq.take-length}
pub use borrow.Author.{Rules.rules, Tests.eq-eqb, Tests.eqb-true, Tests.le-ltb, Tests.lt-ltb, Tests.ltb-true, Tests.ne_eqb, Tests.not-false}
pub use borrow.Rule.Slice.PartMut.{drop_put, mid_len, post_of, put_mid, same_len_mid}
pub use Rattle.io.specs.{Digits.IsDigitCount, Digits.last_digits, Digits.hex_digit_ascii}
pub use Rattle.refusal.proofs.Outcomes.{both, good-bind, good-same, no_value_lem, passed}
pub use Rattle.refusal.specs.{Outcome.Outcome, Outcome.Ok, Outcome.Err, declared.Refusal.TheVariants.WrongImage, declared.Refusal.Refusal}
pub use Rattle.memory.{proofs.Chips.sizes-chip, proofs.Chips.sizes-kind, specs.Image.image_bytes, specs.Image.sizes_of, specs.declared.Sizes.Sizes}
unfoldable pub use Rattle.memory.specs.Image.{image_sizes}
pub use Rattle.layout.proofs.Accepted.{contents-accepted}
unfoldable pub use Rattle.layout.specs.Image.{contents}
pub use Rattle.sheet.specs.{Check.summary, declared.Summary.Summary}
unfoldable pub use Rattle.sheet.specs.Check.{check}
pub use Rattle.tray_report.specs.Images.{JudgedAs, Reads, Sound, TextOfLine, begun, bytes_in, bytes_of, is_whole, left, with}
pub use Rattle.tray_report.specs.Lines.{Longer, Put, Room}
pub use Rattle.tray_report.specs.Steps.{FewerStepsLeft, Open, Ran, Reported, Run, RunTells, SoundState, SteppedOn, StepsTo, WrittenInTurn, begins, bytes_wanted, has_next, initial, next_state, state_of, step_line, steps}
pub use Rattle.tray_report.specs.Steps.{steps_left}
pub use Rattle.tray_report.specs.Tray.{First, bits_of, cut, decimal, first_of, line, lines_from, total, total_line}
pub use Rattle.tray_report.specs.Trays.{CutShort, CutTray, FewBits, FullTray, PrintedExample, Sent, Sized, ToldAtTheEnd, ToldFromTheStart, ToldInTurn, WholeTray, check_of, sent_bytes, sum_of}
pub use Rattle.tray_report.specs.declared.Next.{Next, TheVariants.Image, TheVariants.Kind, TheVariants.Nothing, TheVariants.Total}
pub use Rattle.tray_report.specs.declared.{ImageReport.ImageReport, Line.Line, SoFar.SoFar, State.State, Stepped.Stepped}
unfoldable pub use Rattle.tray_report.specs.{Images.report_from, Steps.written, Tray.checks, Tray.digits_up_to, Tray.report}
