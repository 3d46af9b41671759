-- What the proofs of this crate take from the kit, from the crates below and from its own definitions.
pub use Prim.Native.Nat.{◌+◌, ◌-◌, ◌<◌, ◌≤◌, suc, zero, ℕ}
pub use mathlib.Core.List.{List, [], ◌++◌, ◌∷◌, append_assoc, map, map-append}
pub use mathlib.Core.{Bool.Bool, Bool.cond, Bool.false, Bool.not, Bool.true, Logic.⊎_elim, Path.◌∙◌, Path.◌≡◌, Path.ap, Path.ap₂, Path.refl, Path.sym}
pub use native.Mathlib.{Numerals.add-one, Numerals.unary_clauses, Omega.arith}
pub use lib.ListN.{get_or-map, drop, get_or, length, length-append, length-drop, length-map, length-replicate, length-take, replicate, replicate-append-replicate, set, take}
pub use lib.{Dec.eqb, Dec.ltb, Ieee.Float, IntN.pos, IntN.ℤ, Seq.drop-cons, Seq.length-take-le, Seq.set_at, Seq.take_all, Seq.take-length, Seq.take-suc}
pub use mir.{Facts.to_z-of_z, Syntax.w64}
pub use borrow.Author.{Rules.rules, Tests.eq-eqb, Tests.eqb-true, Tests.le-ltb, Tests.ne_eqb}
pub use Rattle.refusal.specs.Outcome.{Outcome, ◌>>◌, Ok, refuse◌if◌, Err}
pub use Rattle.refusal.specs.{declared.Refusal.TheVariants.WrongImage, Written.afterwards, Written.written_said, declared.Refusal.Refusal}
pub use Rattle.memory.specs.{Image.part_of, declared.Sizes.Sizes}
unfoldable pub use Rattle.memory.specs.Image.{image_sizes, page_bytes}
pub use Rattle.codes.specs.declared.Value.{Value, TheVariants.Missing, TheVariants.Single, TheVariants.Whole}
pub use Rattle.templates.proofs.TemplateFacts.{last-most}
pub use Rattle.templates.specs.Lines.{last_field, number_of}
pub use Rattle.templates.specs.declared.{Domain.Domain, Layout.Layout, Level.Level, Level.TheVariants.Owner, Template.Template, Template.TheVariants.Bridge, Template.TheVariants.Resistance}
pub use Rattle.texts.proofs.Answers.{said-refused}
pub use Rattle.texts.specs.{Text.text_of, Text.text_said, declared.Text.Text}
pub use Rattle.layout.{proofs.Places.fields-count, specs.Contents.Contents, specs.Image.contents, specs.Image.field, specs.Image.nothing, specs.Pieces.end_code}
pub use Rattle.sheet.proofs.{HeldLaws.holding, HeldLaws.layout_is, OpenLaws.held, OpenLaws.not_opened, OpenLaws.opens}
pub use Rattle.sheet.specs.Check.{summary}
pub use Rattle.sheet.specs.{Opened.Opens, declared.Summary.Summary, declared.opening.Opened.Opened}
unfoldable pub use Rattle.sheet.specs.Check.{read_field}
pub use Rattle.change.specs.Change.{change, commit, propose}
pub use Rattle.build.proofs.{BuiltIn.end-byte, Splitting.SplitTo, Splitting.split-all, Splitting.split-none, Splitting.split-sheet, Splitting.spread-missing, Splitting.spread-single, Splitting.spread-whole}
pub use Rattle.build.specs.{Build.build, Build.build_curve, Build.slot, Tested.SplitValues, Tested.sheet_lent, declared.Options.Options, declared.Sheet.Sheet}
pub use Rattle.writing.specs.{Answers.answered, Steps.Step, Steps.done, Steps.next_row, Steps.write, declared.rows.Row.Row}
pub use Rattle.dartelm.specs.Answers.{character_answer, check_answer, code_answer, compared_answer, conformity_answer, distance_answer, domain_number, field_answer, no_comparison, no_conformity, no_distance, no_numbers}
pub use Rattle.dartelm.specs.Answers.{no_pair, no_proposal, no_reading, no_row, no_segment, no_term, numbers, padded, page_answer, pair_answer, proposal_answer, reading_answer, row_answer, segment_answer, struct_by, struct_of}
pub use Rattle.dartelm.specs.Answers.{term_answer, text_answer, write_answer}
pub use Rattle.dartelm.specs.Values.{by_flags, level_of, no_value, options_of, sheet_of, slot_of, template_by, template_flag, value_of, yes}
pub use Rattle.dartelm.specs.declared.{answers.DartelmWriteAnswer.DartelmWriteAnswer, values.DartelmFields.DartelmFields, values.DartelmValue.DartelmValue}
pub use Rattle.dartelm.specs.{Calls.page_call, Found.found_fields, Found.value_in, Sheets.SheetAgain, Sheets.field_numbers, Sheets.no_fields, Sheets.sheet_answer}
unfoldable pub use Rattle.dartelm.specs.{Calls.kind_of, Sheets.field_reads, Sheets.read_fields}
pub use Rattle.refusal.proofs.Outcomes.{good-same, no_value_lem}
pub use Rattle.std.specs.Prelude.{None}
pub use Rattle.std.specs.Prelude.{Option}
pub use Rattle.std.specs.Prelude.{Some}
