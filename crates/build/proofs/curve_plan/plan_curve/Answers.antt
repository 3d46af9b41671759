use Rattle.build.proofs.Names.{sym, ◌∙◌}
use Rattle.build.proofs.CurveTurns.{curve-wrong}
use Rattle.build.proofs.curve_plan.plan_curve.Goals as goal

pub returns-then-not-is_segment_count : goal.returns-then-not-is_segment_count
returns-then-not-is_segment_count c = curve-wrong c.args.curve c.requires.1 (sym c.is_segment_count.ensures ∙ c.if-not-is_segment_count.true)
