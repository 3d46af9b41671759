use Rattle.refusal.proofs.Outcomes.{exits}
use Rattle.sheet.proofs.Names.{◌∙◌, first_selector, stood_to}
use Rattle.sheet.proofs.Steps.{carried}
use Rattle.sheet.proofs.SheetSteps.{walked_by}
use Rattle.sheet.proofs.opening.walk_sheet.Goals as goal

pub returns-in_err-judge_basic : goal.returns-in_err-judge_basic
returns-in_err-judge_basic c = exits _ c.from_residual.ensures ∙ carried (stood_to 0 first_selector) _ c.in_err-judge_basic.was c.judge_basic.ensures ∙ walked_by _ _

pub returns : goal.returns
returns c = c.open_block.ensures ∙ carried (stood_to 0 first_selector) _ c.in_ok-judge_basic.was c.judge_basic.ensures ∙ walked_by _ _
