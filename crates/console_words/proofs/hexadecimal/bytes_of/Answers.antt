use Rattle.console_words.proofs.Names.{◌≡◌, sym, ◌∙◌, arith, drop_of_length-le, bytes}
use Rattle.console_words.proofs.FilledLaws.{counted-all, fill_start, fill_on, fill_end, fill_stop, filled-all, filled_none}
use Rattle.console_words.proofs.HexLaws.{byte-next}
use Rattle.console_words.proofs.hexadecimal.bytes_of.Goals as goal

pub returns-in_err-count : goal.returns-in_err-count
returns-in_err-count c = rw c.from_residual.ensures (filled_none (bytes c.args.word.now) c.args.out.now c.in_err-count.ensures)

pub loop-at-init : goal.loop-at-init
loop-at-init c = fill_start _ _

pub byte_at-requires : goal.byte_at-requires
byte_at-requires c = (byte-next c.args.word.now _ _ c.loop-at.at c.in_ok-count.ensures c.loop-at-test.true).there

pub returns-in_err-out : goal.returns-in_err-out
returns-in_err-out c =
    let said = bytes c.args.word.now in
    let p = byte-next c.args.word.now _ _ c.loop-at.at c.in_ok-count.ensures c.loop-at-test.true in
    rw c.from_residual-in_err-out.ensures
    (fill_stop _ _ _ _ _ c.loop-at.invariant _ (rw (sym c.byte_at.ensures ∙ c.in_err-out.was) at p.is) ∙ filled-all said c.args.out.now c.in_ok-count.ensures)

pub bounds-out-at : goal.bounds-out-at
bounds-out-at c = omega (arith, (counted-all (bytes c.args.word.now) _ _ c.in_ok-count.ensures).1)

pub loop-at-preserved : goal.loop-at-preserved
loop-at-preserved c =
    let p = byte-next c.args.word.now _ _ c.loop-at.at c.in_ok-count.ensures c.loop-at-test.true in
    fill_on _ _ _ _ _ c.loop-at.invariant _ _ (rw (sym c.byte_at.ensures ∙ c.in_ok-out.was) at p.is) (omega (arith, (counted-all (bytes c.args.word.now) _ _ c.in_ok-count.ensures).1))

pub returns : goal.returns
returns c =
    let said = bytes c.args.word.now in
    let n = (counted-all said _ _ c.in_ok-count.ensures).0 in
    let e : c.in_ok-count.count ≡ c.loop-at.at = omega arith in
    rw e (fill_end _ _ _ _ _ c.loop-at.invariant (drop_of_length-le said (omega arith))) ∙ filled-all said c.args.out.now c.in_ok-count.ensures
