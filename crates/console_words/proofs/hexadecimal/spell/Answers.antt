use Rattle.console_words.proofs.Names.{◌≡◌, map, Option, Some, ℕ, arith, drop_of_length-le, length-map, spelt}
use Rattle.console_words.proofs.FilledLaws.{fill_start, fill_on, fill_end, filled-short, begun-filled, drop-some}
use Rattle.console_words.proofs.hexadecimal.spell.Goals as goal

pub returns-then-all-out : goal.returns-then-all-out
returns-then-all-out c =
    let a = c.args in
    filled-short (map {B = Option ℕ} Some (spelt a.bytes.now)) a.out.now (rw (length-map (spelt a.bytes.now) Some) (omega (arith, c.spelt_length-all.ensures, c.if-all-out.true)))

pub loop-at-init : goal.loop-at-init
loop-at-init c = fill_start _ _

pub loop-at-preserved : goal.loop-at-preserved
loop-at-preserved c = fill_on _ _ _ _ _ c.loop-at.invariant _ _ (rw c.spelt_at.ensures (drop-some (spelt c.args.bytes.now) c.loop-at.at (omega (arith, c.spelt_length-all.ensures)))) (omega (arith, c.loop-at.invariant.long))

pub returns : goal.returns
returns c =
    let a = c.args in
    let e : c.spelt_length-all.result ≡ c.loop-at.at = omega arith in
    rw e (begun-filled (map {B = Option ℕ} Some (spelt a.bytes.now)) a.out.now _ _ (fill_end _ _ _ _ _ c.loop-at.invariant (rw (drop_of_length-le (spelt c.args.bytes.now) {i = c.loop-at.at} (omega (arith, c.spelt_length-all.ensures))))))
