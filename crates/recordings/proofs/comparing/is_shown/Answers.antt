use Rattle.recordings.proofs.Names.{◌∙◌, ap, rules, w64, to_z-of_z, same_of, shows_by}
use Rattle.recordings.proofs.Ticks.{eq-of-words}
use Rattle.recordings.proofs.comparing.is_shown.Goals as goal

pub returns-in-Ok : goal.returns-in-Ok
returns-in-Ok c =
    let x = c.args.x in
    λ kind y h.
    eq-of-words {a = c.in-Ok.reading.fraction} {b = x.shown} (search rules) (search rules)
    ∙ ap (shows_by x.shown) (rw (to_z-of_z {w = w64} {z = x.input} (search rules)) at (same_of c.in-Ok.is (c.reading_in.ensures kind y h)))
