-- Document 02, Note 13: ten against sixty. "Two dashes record the
-- same run: input and shown fraction q by turns for each refresh".
use Rattle.std.specs.Prelude.{Bool, false, not, ◌&&◌, ◌||◌, cond, List, [], ◌∷◌, ℕ, suc, ◌*◌, ◌/◌, ◌%◌, eqb, ℤ, pos, length, get_or}
use Rattle.std.specs.Ordering.{int_eq}
use Rattle.refusal.specs.Outcome.{Outcome, Ok, Err, ◌>>◌, ◌>>=◌, refuse◌if◌}
use Rattle.refusal.specs.declared.Refusal.TheVariants.{WrongTicks}
use Rattle.layout.specs.Image.{contents}
use Rattle.reading.specs.declared.Reading.{Reading}
use Rattle.reading.specs.declared.Dash.TheVariants.{Large}
use Rattle.reading.specs.Reading.{take_reading}
use Rattle.recordings.specs.declared.Refresh.{Refresh}
use Rattle.recordings.specs.declared.Compared.{Compared}
use Rattle.recordings.specs.declared.Compared.TheVariants.{Agree, Tick}

-- A refresh: its input and the fraction shown.
abbrev pub refresh : ℤ → ℤ → Refresh
refresh input shown = record { input = input; shown = shown }

-- "input and shown fraction q by turns"
abbrev pub refreshes : List ℤ → List Refresh
refreshes [] = []
refreshes (v ∷ []) = []
refreshes (v ∷ q ∷ l) = refresh v q ∷ refreshes l

-- The refresh in place of one that is not there.
abbrev pub never : Refresh
never = refresh (pos 0) (pos 0)

-- The fraction is the reading of its input from the lent
-- image on the large dash; a refused reading shows none.
abbrev pub shows_by : ℤ → Outcome Reading → Bool
shows_by q (Ok r) = int_eq r.fraction q
shows_by q (Err r) = false

abbrev pub shows : ℕ → List ℕ → Refresh → Bool
shows kind image x = shows_by x.shown (take_reading kind image x.input Large)

-- "Tick t of the slow list pairs with tick 6t of the fast one, both from
-- 0": inputs and fractions are equal. The other fast ticks are unpaired.
abbrev pub pairs : List Refresh → ℕ → Refresh → Bool
pairs slow tick x =
    let y = get_or slow (tick / 6) never in
    not (eqb (tick % 6) 0) || (int_eq y.input x.input && int_eq y.shown x.shown)

-- A fast tick is right: as its slow tick, if it pairs
-- with one, and its fraction the reading of its input.
unfoldable pub right : ℕ → List ℕ → List Refresh → ℕ → Refresh → Bool
right kind image slow tick x = pairs slow tick x && shows kind image x

-- The comparison from a fast tick on: "agreement, or the first failing fast tick".
unfoldable pub compared_from : ℕ → List ℕ → List Refresh → ℕ → List Refresh → Compared
compared_from kind image slow tick [] = Agree
compared_from kind image slow tick (x ∷ fast) = cond (right kind image slow tick x) (compared_from kind image slow (suc tick) fast) (Tick tick)

-- Row 26: "a list has an odd length or the fast ticks aren't six times the slow ones".
abbrev pub unlike : ℕ → ℕ → Bool
unlike slow fast = eqb (slow % 2) 1 || eqb (fast % 2) 1 || not (eqb (fast / 2) (6 * (slow / 2)))

-- Order: check, 26, with "the fast list's whole ticks" as its place.
unfoldable pub compare : ℕ → List ℕ → List ℤ → List ℤ → Outcome Compared
compare kind image slow fast = do
  c ← contents kind image
  refuse WrongTicks (length fast / 2) if unlike (length slow) (length fast)
  Ok (compared_from kind image (refreshes slow) 0 (refreshes fast))
