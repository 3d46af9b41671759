-- What the proofs of this crate take from the kit, from the crates below and from its own definitions.
pub use Prim.Native.Nat.{◌%◌, ◌*◌, ◌+◌, ◌-◌, ◌/◌, ◌<◌, ◌^◌, ◌≤◌, suc, zero, ℕ}
pub use mathlib.Core.{Bool.Bool, Bool.false, Bool.true, List.List, List.[], List.◌++◌, List.◌∷◌, List.append_assoc, List.map, Logic.inl, Logic.inr, Path.◌∙◌, Path.◌≡◌, Path.ap, Path.ap₂, Path.refl, Path.subst, Path.sym}
pub use native.Mathlib.{Decide.dec_lt, Decide.ℕ_discrete, Nat.zero-add, Numerals.add-one, Omega.arith}
pub use lib.ListN.{get_or-map, drop, get_or, length, length-append, length-drop, length-map, length-set, set, take}
pub use lib.{Bits.and_mask, Bits.bit_or, Bits.mask_lt, Bits.or_shifted_r, Dec.ltb, Pow.shl_exact, Seq.drop_at, Seq.drop-drop, Seq.ext_get_or, Seq.get_or_at, Seq.length-take-le, Seq.sets-eq, Seq.take_at}
pub use borrow.Author.{Rules.rules, Tests.eq-eqb, Tests.le-ltb, Tests.lt-ltb, Tests.ltb-true, Tests.ne_eqb}
pub use Rattle.refusal.proofs.Outcomes.{bind-good, bind-refused, good-bind, good-same, no_value_lem, passed, said_of, same_of}
pub use Rattle.refusal.proofs.WrittenLaws.{written-done, written-refused}
pub use Rattle.refusal.specs.{Outcome.Outcome, Outcome.◌>>=◌, Outcome.◌>>◌, Outcome.Ok, Outcome.refuse◌if◌, Outcome.Err, declared.Refusal.TheVariants.NoSuch, declared.Refusal.TheVariants.OutsideTable, declared.Refusal.TheVariants.PastEnd, declared.Refusal.TheVariants.ShortIndex, declared.Refusal.Refusal}
pub use Rattle.memory.proofs.{Chips.sizes-chip, FieldLaws.field_lt}
pub use Rattle.memory.specs.{Bits.bytes_of, Bits.field_at, Bits.number, Image.image_sizes, Image.stream_bits, Image.stream_number, Image.sums, declared.Sizes.Sizes}
pub use Rattle.stream.specs.Answers.{Step, passed_over, taken_said}
pub use Rattle.stream.specs.declared.cursor.{Cursor.Cursor, Passed.Passed}
unfoldable pub use Rattle.stream.specs.Answers.{taken_at}
pub use Rattle.codes.specs.{Rules.decode, Stored.Sound, declared.Row.Row, declared.Value.Value}
pub use Rattle.templates.proofs.{RowLaws.row-sound, TemplateFacts.basic-most, TemplateFacts.last-most}
pub use Rattle.templates.specs.declared.{Layout.Layout, Mark.Mark, Mark.TheVariants.Cal, Template.Template, Template.TheVariants.Bridge, Template.TheVariants.Resistance}
pub use Rattle.templates.specs.{Lines.Line, Lines.bits_before, Lines.chosen, Lines.last_field, Lines.line_of, Lines.no_line, Lines.number_of, Lines.row_of, Lines.template_lines, Rows.bridge_end, Rows.resistance_end}
unfoldable pub use Rattle.templates.specs.Lines.{basic, lines_of, template32, template33}
pub use Rattle.layout.proofs.Accepted.{Accepted, Holding, contents-accepted, number-stands}
pub use Rattle.layout.proofs.PlaceSteps.{behind-basic, end-few, in-basic, place-few}
pub use Rattle.layout.proofs.{Choices.bits-front, Fields.at-is, Fields.width_is, Places.fields-count, Places.get-back, Places.get-front, Standing.Valid, Standing.field-stands, Standing.pair-here}
pub use Rattle.layout.specs.Image.{contents, field, layout_of, no_found, nothing, pair_in, pairs_in, stream_in}
pub use Rattle.layout.specs.{Contents.Contents, Contents.FoundPair, Format.Stream, Places.field_place, Places.pair_bits, Places.pair_place}
pub use Rattle.sheet.proofs.{HeldLaws.behind-is, HeldLaws.holding, HeldLaws.layout_is, HeldLaws.points-are, OpenLaws.not_opened, OpenLaws.opens, OpenLaws.sized, ReadLaws.accepted-reads}
pub use Rattle.sheet.specs.{Check.read_field, Opened.Opens, Walk.layout_at, declared.opening.Opened.Opened}
pub use Rattle.index.specs.Index.{choices, entries, entry, entry_at, entry_bytes, field_entry, of_length, pair_entry, row_of_length, taken_as}
pub use Rattle.index.specs.{Laid.first_entries, Laid.laid, declared.Entry.Entry}
unfoldable pub use Rattle.index.specs.{Index.bits_at, Index.fetch, Index.fetch_in, Index.index, Index.template_at, Laid.entry_of}
