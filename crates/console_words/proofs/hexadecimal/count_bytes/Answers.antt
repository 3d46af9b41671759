use Rattle.console_words.proofs.Names.{◌≡◌, sym, ◌∙◌, false, rules, tests, arith, eqb-true, length, is_none, value_of, is_minus, any_from_yields_List, YieldsList-from_slice}
use Rattle.console_words.proofs.FilledLaws.{not_empty}
use Rattle.console_words.proofs.HexLaws.{bytes-empty, bytes-odd, bytes-other, bytes-many, bytes-all}
use Rattle.console_words.proofs.hexadecimal.count_bytes.Goals as goal
use Rattle.console_words.proofs.hexadecimal.count_bytes.Goals.{then-is_empty-via-then-is_empty, then-is_empty-via-else-is_empty+then-word-eq1, then-count-room-via-then-count-room, then-count-room-via-else-count-room+then-any}

pub returns-then-is_empty : goal.returns-then-is_empty
returns-then-is_empty c =
    let word = c.args.word.now in
    elim c.then-is_empty.branch [
      | then-is_empty-via-then-is_empty w ↦ rw (bytes-empty word (eqb-true (length word) 0 (sym c.is_empty.ensures ∙ w.if-is_empty.true)))
      | then-is_empty-via-else-is_empty+then-word-eq1 w ↦ bytes-odd word (sym c.if-is_minus.ensures) (not_empty word w.if-is_empty.ensures) c.args.room w.if-word-eq1.true
    ]

pub returns-then-count-room : goal.returns-then-count-room
returns-then-count-room c =
    let word = c.args.word.now in
    let m : is_minus word ≡ false = sym c.if-is_minus.ensures in
    let n = not_empty word c.if-is_empty.ensures in
    elim c.then-count-room.branch [
      | then-count-room-via-then-count-room w ↦ bytes-many word m n c.args.room c.if-word-eq1.false (omega arith)
      | then-count-room-via-else-count-room+then-any w ↦ bytes-other word m n c.args.room
          (sym (any_from_yields_List (λ b. is_none (value_of b)) _ _ w.any.result w.any.ensures.ran (YieldsList-from_slice word w.iter.ensures.rest) (λ x b q k. search (rules, tests))) ∙ w.if-any.true)
    ]

pub returns : goal.returns
returns c =
    let word = c.args.word.now in
    bytes-all word (sym c.if-is_minus.ensures) (not_empty word c.if-is_empty.ensures) c.args.room c.if-word-eq1.false
    (sym (any_from_yields_List (λ b. is_none (value_of b)) _ _ c.any.result c.any.ensures.ran (YieldsList-from_slice word c.iter.ensures.rest) (λ x b q k. search (rules, tests))) ∙ c.if-any.false)
    (omega arith)
