-- Only inner contracts need this: a refresh of a recording by its tick.
use Rattle.std.specs.Prelude.{List, ℕ, ◌+◌, ◌*◌, ℤ, pos, get_or}
use Rattle.recordings.specs.declared.Refresh.{Refresh}
use Rattle.recordings.specs.Recordings.{refresh}

abbrev pub refresh_at : List ℤ → ℕ → Refresh
refresh_at recording tick = refresh (get_or recording (2 * tick) (pos 0)) (get_or recording (2 * tick + 1) (pos 0))
