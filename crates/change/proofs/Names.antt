-- What the proofs of this crate take from the kit, from the crates below and from its own definitions.
pub use Prim.Native.Nat.{◌+◌, ◌-◌, ◌/◌, ◌<◌, ◌^◌, ◌≤◌, ℕ}
pub use mathlib.Core.{Bool.Bool, Bool.◌&&◌, Bool.◌||◌, Bool.cond, Bool.false, Bool.not, Bool.true, Bool.true≢false, List.List, Path.◌∙◌, Path.◌≡◌, Path.ap, Path.ap₂, Path.refl, Path.subst, Path.sym}
pub use native.Mathlib.{Decide.dec_lt, Nat.div-lt_iff_lt-mul, Nat.zero-add, Omega.arith}
pub use lib.{Dec.eqb, Dec.ltb, Ieee.binary32, Ieee.of_bits, IntN.pos, ListN.length, Pow.pow_pos, Pow.shr_lt}
pub use Rattle.std.specs.Prelude.{is_ok}
pub use borrow.Author.{Rules.rules, Tests.eq-eqb, Tests.eqb-false, Tests.eqb-true, Tests.le-ltb, Tests.lt-ltb, Tests.ltb-false, Tests.ltb-true, Tests.ne_eqb, Tests.not-false, Tests.not-true}
pub use Rattle.refusal.proofs.Outcomes.{bind-good, bind-refused, both, good-bind, good-same, good-then, neither, no_value_lem, passed, said_of, same_of, then-good, then-refused}
pub use Rattle.refusal.proofs.WrittenLaws.{written-done, written-refused}
pub use Rattle.refusal.specs.Outcome.{Outcome, ◌>>=◌, ◌>>◌, Ok, refuse◌if◌, Err}
pub use Rattle.refusal.specs.{declared.Refusal.TheVariants.ChangedAlone, declared.Refusal.TheVariants.LevelTooLow, declared.Refusal.TheVariants.NoSuch, declared.Refusal.TheVariants.NotFinite, declared.Refusal.TheVariants.OtherCode, declared.Refusal.TheVariants.OutOfRange, declared.Refusal.TheVariants.OutsideTable, declared.Refusal.Refusal}
pub use Rattle.memory.proofs.{Chips.sizes-chip, FieldLaws.put-lt, FieldLaws.put_same, Images.image-bytes, Images.image-length, Images.two-views, Streams.stream-lt, SumLaws.sums-right}
pub use Rattle.memory.specs.{Bits.Bytes, Bits.field_at, Bits.put_at, Image.SumsRight, Image.image_bytes, Image.image_of, Image.image_sizes, Image.stream_bits, Image.stream_number, declared.Sizes.Sizes}
pub use Rattle.stream.specs.Answers.{InStream}
pub use Rattle.codes.proofs.{DecodeLaws.tested, StoredLaws.reads-back, StoredLaws.stored-again}
pub use Rattle.codes.specs.Rules.{all_ones, encode, finite, geometric_value, meaning, progression, stepped_value, top_code}
pub use Rattle.codes.specs.declared.Rule.{Rule, TheVariants.Geometric, TheVariants.Plain, TheVariants.Single as Ieee, TheVariants.Stepped}
pub use Rattle.codes.specs.declared.{Row.Row, Value.Value, Value.TheVariants.Missing, Value.TheVariants.Single, Value.TheVariants.Whole}
pub use Rattle.codes.specs.{Stored.Real, Stored.Sound, Stored.kept, Validity.judge}
unfoldable pub use Rattle.codes.specs.Rules.{decode}
pub use Rattle.templates.proofs.RowLaws.{row-sound}
pub use Rattle.templates.specs.{Levels.may_write, Lines.chose, Lines.last_field, Lines.line_of, Lines.row_of, declared.Layout.Layout, declared.Level.Level, declared.Template.Template}
pub use Rattle.layout.proofs.{Accepted.Holding, Accepted.accepted-at, Accepted.contents-accepted, Accepted.written-contents, Fields.Keeps, Fields.at-is, Fields.recoded, Fields.row_is, Fields.width_is, Formats.parsed}
pub use Rattle.layout.proofs.{Places.field-at, Places.fields-count, Puts.holding-put, Puts.with_field, Standing.Valid, Standing.field-stands}
pub use Rattle.layout.specs.{Contents.Contents, Contents.Found, Format.bits, Format.parse, Image.contents, Image.field, Image.layout_of, Image.stream_in, Places.field_place}
pub use Rattle.sheet.proofs.{HeldLaws.held_whole, HeldLaws.holding, HeldLaws.layout_is, OpenLaws.held, OpenLaws.not_opened, OpenLaws.opens, Steps.got, Steps.past}
pub use Rattle.sheet.specs.{Opened.Opens, declared.opening.Opened.Opened}
pub use Rattle.change.specs.{Change.proposed_for, Change.recoded_in, Parts.may_follow, Parts.proposed_at, Parts.writable_in}
unfoldable pub use Rattle.change.specs.{Change.change, Change.changeable, Change.code_for, Change.commit, Change.may_commit, Change.may_stand, Change.propose, Change.rewritten, Parts.allowed_in, Parts.code_in}
