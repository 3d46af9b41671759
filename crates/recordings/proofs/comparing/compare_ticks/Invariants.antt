use Rattle.recordings.proofs.Names.{◌≡◌, ℕ, Contents, Opens, refreshes, compared_from}
use Rattle.recordings.proofs.Ticks.{refreshes_from}
use Rattle.recordings.proofs.comparing.compare_ticks.Given as goal

-- The loop's invariant: the comparison from this tick on gives the answer of the whole.
abbrev pub invariant-loop-tick : goal.invariant-loop-tick
invariant-loop-tick l = (kind : ℕ) (c : Contents) → Opens kind l.image l.sheet c → compared_from kind l.image (refreshes l.slow) l.tick (refreshes_from l.fast l.tick) ≡ compared_from kind l.image (refreshes l.slow) 0 (refreshes l.fast)
