-- What the proofs of this crate take from the kit, from the crates below and from its own definitions.
pub use Prim.Native.Nat.{◌%◌, ◌+◌, ◌-◌, ◌<◌, ◌≤◌, suc, zero, ℕ}
pub use Rattle.std.specs.declared.option.Option.{Option, TheVariants.None, TheVariants.Some}
pub use mathlib.Core.{Bool.Bool, Bool.cond, Bool.false, Bool.not, Bool.true, List.List, List.[], List.◌++◌, List.◌∷◌, List.map, Logic.◌⊎◌, Logic.inl, Logic.inr, Path.◌∙◌, Path.◌≡◌, Path.ap, Path.refl, Path.sym}
pub use native.Mathlib.{Nat.add-zero, Nat.sub-zero, Nat.zero-add, Numerals.add-one, Omega.arith}
pub use lib.ListN.{drop, drop_of_length-le, get_or, length, replicate, set, take, take-append-drop}
pub use lib.{Dec.leb, Dec.ltb, Ieee.Bits.to_bits-lt, Ieee.binary32, IntN.ℤ, Seq.drop-cons, Seq.length-take-le, Seq.take_all, Seq.take-append_seam, Seq.take-suc-set}
pub use mir.{Facts.to_z-of_z, Syntax.w64}
pub use borrow.Author.{Rules.rules, Tests.eq-eqb, Tests.le-leb, Tests.le-ltb, Tests.lt-leb, Tests.lt-ltb, Tests.ltb-false, Tests.ltb-true, Tests.ne_eqb}
pub use Rattle.refusal.proofs.Outcomes.{said_of, same_of}
pub use Rattle.codes.{proofs.FloatLaws.not-nan, specs.declared.Value.TheVariants.Missing}
pub use Rattle.templates.{proofs.TemplateFacts.last-most, specs.Curves.no_segment}
pub use Rattle.build.specs.{Build.slot, declared.Sheet.Sheet}
pub use Rattle.memory.specs.Image.{page_bytes}
pub use Rattle.sheet.specs.Check.{read_character, read_field, read_pair, read_segment, read_term}
pub use Rattle.console_words.proofs.FilledLaws.{Filling, fill_on, fill_start, filled-whole, not-whole, whole_room, whole-said, written-long}
pub use Rattle.console_words.specs.Said.{Held, every, filled, filled_said, is_whole, says◌if◌, written}
pub use Rattle.console_words.specs.{Figures.figure, Figures.figures, Figures.number, Hexadecimal.bytes, Hexadecimal.spelt, Levels.level, Values.single, Values.value, Words.word_at, Words.word_count}
pub use Rattle.commands.specs.Arguments.{Lent, chip_of, lent, lent_by, lent_said}
pub use Rattle.commands.specs.declared.arguments.{Chip.Chip}
pub use Rattle.commands.specs.declared.arguments.{ChipNumber.ChipNumber}
pub use Rattle.commands.specs.declared.choosing.Command.{Command, TheVariants.Unknown as NoCommand}
pub use Rattle.commands.specs.Command.{command_of, named}
pub use Rattle.commands.specs.Built.{built_by, built_said}
pub use Rattle.commands.specs.declared.builds.{Head.Head}
pub use Rattle.commands.specs.Replies.{ImageNumber, number_reply, number_request, number_request_said, page_reply}
pub use Rattle.commands.specs.{Builds.flag, Builds.points_in, Builds.slot_at, Builds.text_in, Curves.segment_at, Curves.term_at, Curves.zero_term, Dashes.dash}
pub use Rattle.commands.specs.{Gathering.after, Gathering.come_said, Gathering.more, Gathering.next, Kinds.kind_of, Lists.◌>>=◌, Lists.arrayed, Lists.front_said, Lists.items, Replies.ChipImage, Replies.chip_image_said}
unfoldable pub use Rattle.commands.specs.{Lists.within, Replies.chip_image}
