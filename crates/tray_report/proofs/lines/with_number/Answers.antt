use Rattle.tray_report.proofs.Names.{subst, List, ℕ, ◌≤◌, arith, length, Longer}
use Rattle.tray_report.proofs.DecimalLaws.{spelt-decimal}
use Rattle.tray_report.proofs.lines.with_number.Goals as goal

pub with-requires : goal.with-requires
with-requires c =
    let d = c.decimal-count in
    let e = spelt-decimal _ c.args.n d.ensures.len c.ranges.n.fits d.ensures.digits in
    record { room = c.requires.room; fits = omega (arith, e.1, c.requires.fits); zeros = c.requires.zeros }

pub returns : goal.returns
returns c =
    let d = c.decimal-count in
    let e = spelt-decimal _ c.args.n d.ensures.len c.ranges.n.fits d.ensures.digits in
    subst (λ (t : List ℕ). Longer c.args.line t c.with.result × (length t ≤ 20)) e.0 (c.with.ensures, e.1)
