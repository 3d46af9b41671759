-- What the proofs of this crate take from the kit, from the crates below and from its own definitions.
pub use Prim.Native.Nat.{◌%◌, ◌*◌, ◌+◌, ◌-◌, ◌/◌, ◌<◌, ◌^◌, ◌≤◌, min, suc, zero, ℕ}
pub use mathlib.Core.Bool.{Bool, beq, ◌&&◌, ◌||◌, cond, false, not, true, true≢false}
pub use mathlib.Core.{List.List, List.[], List.◌++◌, List.◌∷◌, Path.◌∙◌, Path.◌≡◌, Path.ap, Path.ap₂, Path.refl, Path.subst, Path.sym}
pub use Rattle.std.specs.declared.option.Option.{Option, TheVariants.None, TheVariants.Some}
pub use native.Mathlib.{Decide.dec_lt, Nat.le_of_suc-le-suc, Nat.not-suc-le-zero, Nat.zero-add, Omega.arith}
pub use lib.IntN.{◌*ℤ◌, ◌+ℤ◌, nat_abs, negsuc, pos, ℤ}
pub use lib.{Bits.and_mask, Dec.T, Dec.eqb, Dec.eqb→eq, Dec.leb, Dec.leb→le, Dec.ltb, Dec.ltb→lt, ListN.get_or, ListN.length, ListN.length-append, Signed.◌<ℤ◌, Signed.le_z, Signed.lt_z}
pub use mir.{Facts.and_yes, Facts.to_z-of_z, Facts.to_z_pos, Syntax.w64, Val.SFits, Val.to_z}
pub use borrow.Author.{Rules.rules, Tests.eq-eqb, Tests.eqb-false, Tests.eqb-true, Tests.le-leb, Tests.le-ltb, Tests.leb-false, Tests.leb-true, Tests.lt-leb, Tests.ltb-false, Tests.ltb-true, Tests.ne_eqb}
pub use Rattle.refusal.proofs.Outcomes.{both, good-same, neither, passed}
pub use Rattle.refusal.specs.{Outcome.◌>>◌, Outcome.Ok, Outcome.Err, declared.Refusal.TheVariants.NotRising, declared.Refusal.TheVariants.OutsideTable, declared.Refusal.TheVariants.SumsNotRising, declared.Refusal.TheVariants.WrongCurve}
pub use Rattle.integers.proofs.Bridge.{parts-of-word}
pub use Rattle.integers.proofs.PartLaws.{abs-parts, add_parts, is_false, is_true, le-le_z, le-lt_z, lt-le_z, lt-lt_z, lt_z-parts, mul-parts, nle_z-parts, nlt_z-parts, parts-<ℤ, same}
pub use Rattle.integers.specs.Parts.{dn, up}
pub use Rattle.codes.specs.declared.Rule.{Rule, TheVariants.Geometric, TheVariants.Plain, TheVariants.Single as Ieee, TheVariants.Stepped}
pub use Rattle.codes.specs.declared.{Row.Row, Value.Value, Value.TheVariants.Missing, Value.TheVariants.Whole}
pub use Rattle.codes.specs.{Rules.all_ones, Rules.meaning, Rules.stepped_value, Rules.top_code, Stored.AllSound, Stored.Sound, Validity.Open}
unfoldable pub use Rattle.codes.specs.Rules.{decode, encode}
pub use Rattle.templates.specs.Calibration.{D, R, cal_deviation, cal_domain, cal_point, domain_code, domain_of, is_physical, least_deviation, point_count, stored_sum}
pub use Rattle.templates.specs.Curves.{coefficient, curve_domain, exponent, exponent_code, exponent_follows, is_exponent, is_term_count, least_exponent, segment_count, segment_start, tenths_before, tenths_of, term_count}
pub use Rattle.templates.specs.Lines.{Line, bits_before, choice, chosen, last_field, line, line_of, no_line, number_of, row_of, rows_of, template_lines, template_of}
pub use Rattle.templates.specs.Rows.{always, bridge_end, bridge_precision, optional, physical, resistance_end}
pub use Rattle.templates.specs.Sound.{RowsSound}
pub use Rattle.templates.specs.declared.{Codes.Codes, Domain.Domain, Domain.TheVariants.Electrical, Domain.TheVariants.Physical, Layout.Layout}
pub use Rattle.templates.specs.declared.{Mark.Mark, Mark.TheVariants.Cal, Mark.TheVariants.Id, Mark.TheVariants.Usr, Template.Template, Template.TheVariants.Bridge, Template.TheVariants.Resistance}
unfoldable pub use Rattle.templates.specs.{Calibration.follows, Lines.basic, Lines.lines_of, Lines.template32, Lines.template33}
