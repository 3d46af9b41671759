use Rattle.console_words.proofs.Names.{rules, tests, refl, nth_from_yields_List, YieldsList-from_slice_split}
use Rattle.console_words.proofs.WordLaws.{part-or}
use Rattle.console_words.proofs.parts.piece_at.Goals as goal

pub returns : goal.returns
returns c =
    rw c.unwrap_or.ensures
    (part-or c.nth.result _ c.args.separator c.args.index c.args.line.now refl
    (nth_from_yields_List c.nth.result c.nth.new.self c.args.index c.nth.ensures.ran
    (YieldsList-from_slice_split _ _ c.args.line.now c.split.ensures.rest c.split.ensures.done c.split.ensures.closure (λ x b q k. search (rules, tests)))))
